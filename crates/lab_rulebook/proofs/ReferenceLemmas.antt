-- What the tables of a device refer to: by its lines' references, and by the versions of devices.
use Rattle.lab_model.proofs.Common.{rules, ◌≡◌, ◌⊎◌, inl, inr, ℕ, List, [], ◌∷◌, Option, Some, None}
use Rattle.lab_model.proofs.Common.{Contains, length, map, slice_get, ap, unwrap_or, flat_map}
use Rattle.lab_model.proofs.Common.{DevNo, Kind, Ref, Meaning, Shape, devices_under, ever_under}
use Rattle.lab_model.proofs.Common.{references_of, Table, image, None-not-Some}
use Rattle.lab_model.proofs.Common.{slice_get-append, Contains-In, In, In-Contains, In-filter_map}
use Rattle.lab_model.proofs.Common.{In-flat_map, In-kinds, In-map, In-slice_get, append-member}
use Rattle.lab_model.proofs.Common.{filter_map-member, map-member, member-place}
use Rattle.lab_model.specs.declared.table_line.TableLine.{TableLine}
use Rattle.lab_model.proofs.Members.{flat_map-member}
use Rattle.lab_script.specs.Task.{Task}
use Rattle.lab_script.specs.Walk.{loads_after}
use Rattle.lab_rulebook.specs.Standing.{with_version}
use Rattle.lab_rulebook.proofs.PlaceLemmas.{loads_into, versions-relate}

-- the devices that a line of a shape refers to
abbrev line_under : {S : Type 0} → TableLine (Shape S) → List DevNo
line_under line = map (λ ref. ref.dev) (references_of line.target)

-- what holds of the device of each reference of a line holds of each device under a table
pub under-each : {S : Type 0} (table : Table (Shape S)) (P : DevNo → Type 0)
    → ((number : ℕ) (line : TableLine (Shape S)) (kind : Kind) (ref : Ref)
    → slice_get table number ≡ Some line → line.target.reference kind ≡ Some ref → P ref.dev)
    → (device : DevNo) → In device (devices_under table) → P device
under-each table P each device has =
    search (rules, flat_map-member, map-member, filter_map-member, member-place)

-- the device of each reference of a line is under the table
pub refers-under : {S : Type 0} (table : Table (Shape S)) (number : ℕ) (line : TableLine (Shape S))
    (kind : Kind) (ref : Ref) → slice_get table number ≡ Some line
    → line.target.reference kind ≡ Some ref → In ref.dev (devices_under table)
refers-under table number line kind ref is_line refers =
    In-flat_map line_under line ref.dev table (In-slice_get line table number is_line)
    (search (rules, In-map, In-filter_map, In-kinds))

-- a version among those of all devices
abbrev pub version_in : {X : Type 0} → List (List X) → ℕ → ℕ → Option X
version_in all device version = slice_get (unwrap_or (slice_get all device) []) version

module _ {S : Type 0} (m : Meaning S) where
  -- the devices that a table's own lines refer to
  abbrev pub own_under : Table S → List DevNo
  own_under table =
      flat_map (λ line. map (λ ref. ref.dev) (references_of (m.shape line.target))) table

  -- are those under its image
  pub under-image : (table : Table S) → devices_under (image m table) ≡ own_under table
  under-image [] = search rules
  under-image (line ∷ lines) = search (rules, under-image lines)

  -- some version of a device refers to another
  abbrev pub EverRefers : List (List (Table S)) → ℕ → DevNo → Type 0
  EverRefers all device below = (table : Table S) × In table (unwrap_or (slice_get all device) [])
      × In below (devices_under (image m table))

  -- a table, if there is one, refers to a device
  abbrev pub NewRefers : Option (Table S) → DevNo → Type 0
  NewRefers held below = (table : Table S) × (held ≡ Some table)
      × In below (devices_under (image m table))

  -- in the words of the definitions
  pub ever-refers : (all : List (List (Table S))) (device : ℕ) (below : DevNo)
      → Contains (ever_under m all device) below → EverRefers all device below
  ever-refers all device below has = search (rules, flat_map-member, In-Contains)

  -- and back
  pub refers-ever : (all : List (List (Table S))) (device : ℕ) (below : DevNo)
      → EverRefers all device below → Contains (ever_under m all device) below
  refers-ever all device below (table, is, has) = Contains-In below (ever_under m all device)
      (In-flat_map (λ own. devices_under (image m own)) table below _ is has)

-- a version of a device is added, if there is one: each is this one, or was there
abbrev pub Adds : {X : Type 0} → List (List X) → List (List X) → Option ℕ → Option X → Type 0
Adds {X} all next place held = (device : ℕ) (x : X) → In x (unwrap_or (slice_get next device) [])
    → ((place ≡ Some device) × (held ≡ Some x)) ⊎ In x (unwrap_or (slice_get all device) [])

-- a version with one more, if there is one, is that or was there
version-member : {X : Type 0} (own : List X) (held : Option X) (x : X)
    → In x (with_version own held) → (held ≡ Some x) ⊎ In x own
version-member own None x has = inr has
version-member own (Some y) x has = elim (append-member x own (y ∷ []) has) [
  | inl old ↦ inr old
  | inr (inl is) ↦ inl (ap Some is)
  | inr (inr none) ↦ absurd none
]

-- an older version stays
abbrev pub Stays : {X : Type 0} → List (List X) → List (List X) → Type 0
Stays {X} all next = (device version : ℕ) (x : X) → version_in all device version ≡ Some x
    → version_in next device version ≡ Some x

module _ {X : Type 0} (all : List (List X)) (found : Option ℕ) (task : Task) (held : Option X)
  where
    -- a command adds the version that it loads
    pub versions-added : Adds all (loads_after with_version [] all found task held)
        (loads_into (length all) found task) held
    versions-added device x = versions-relate (λ d was now. In x (unwrap_or now [])
        → ((loads_into (length all) found task ≡ Some d) × (held ≡ Some x))
        ⊎ In x (unwrap_or was [])) all found task held
        (λ d was here has. elim (version-member (unwrap_or was []) held x has) [
          | inl is ↦ inl (here, is)
          | inr old ↦ inr old
        ]) (λ d old. inr old) device

    -- and the others stay
    pub versions-stay : Stays all (loads_after with_version [] all found task held)
    versions-stay device version x = versions-relate
        (λ d was now. slice_get (unwrap_or was []) version ≡ Some x
        → slice_get (unwrap_or now []) version ≡ Some x) all found task held
        (λ d was here. (search (rules, None-not-Some, slice_get-append))) (λ d is. is) device
