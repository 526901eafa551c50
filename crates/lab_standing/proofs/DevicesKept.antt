-- The lists of devices and versions after a command: with the tables in place of their numbers the
-- same happens, and the numbers stay those of versions that are there. A device's slots after a
-- command: with the tables in place of their numbers the same happens, and the numbers stay those
-- of versions that are there.
use Rattle.lab_model.proofs.Common.{rules, ◌≡◌, ℕ, suc, zero, List, [], ◌∷◌, ◌++◌, Option, Some}
use Rattle.lab_model.proofs.Common.{refl, ap, option_map, Meaning, Shape, change, Table, Devices}
use Rattle.lab_model.proofs.Common.{Slot, ◌<◌, None, length, slice_get, ◌∙◌, arith}
use Rattle.lab_model.proofs.Common.{length_push, slice_get_within, created, image, option_map-holds}
use Rattle.lab_model.proofs.Common.{slice_get-within, slice_get-front}
use Rattle.lab_standing.specs.Image.{devices_of, own_of, slot_of, version_at}
use Rattle.lab_standing.specs.Sound.{HasVersions, HaveVersions, IsOneOf}
use Rattle.lab_script.specs.Alike.{Any, Both}
use Rattle.lab_script.specs.Slots.{slot_after}
use Rattle.lab_script.specs.Task.{Task}
use Rattle.lab_script.proofs.AlikeLemmas.{after-alike}
use Rattle.lab_rulebook.specs.Standing.{with_version}
use Rattle.lab_rulebook.proofs.PlaceLemmas.{pushed-there}

-- a change of one item to itself
pub change-same : {X : Type 0} (xs : List X) (place : ℕ) → change xs place (λ x. x) ≡ xs
change-same [] place = refl
change-same (x ∷ xs) zero = refl
change-same (x ∷ xs) (suc place) = ap (λ l. x ∷ l) (change-same xs place)

module _ {S : Type 0} (m : Meaning S) where
  -- devices with their versions, each of which is there, are these
  abbrev pub Are : List (Option (Slot ℕ)) → List (List (Table S)) → Devices S → Type 0
  Are slots versions devices = (devices_of m slots versions ≡ devices) × HaveVersions slots versions

  -- so is one entry
  abbrev pub Is : List (Table S) → Option (Slot ℕ) → Option (Slot (Table (Shape S))) → Type 0
  Is own entry device = (option_map (slot_of m own) entry ≡ device) × HasVersions own entry

  -- a device more at the end
  pub devices-push : (slot : Slot ℕ) (own : List (Table S)) → HasVersions own (Some slot)
      → (slots : List (Option (Slot ℕ))) (versions : List (List (Table S)))
      → HaveVersions slots versions
      → Are (slots ++ Some slot ∷ []) (versions ++ own ∷ [])
      (devices_of m slots versions ++ Some (slot_of m own slot) ∷ [])
  devices-push slot own has [] [] have = search rules
  devices-push slot own has [] (first ∷ versions) have = search rules
  devices-push slot own has (first ∷ slots) [] have = search rules
  devices-push slot own has (first ∷ slots) (owned ∷ versions) have =
      search (rules, devices-push slot own has slots versions have.1)

  -- a change of one device, and of its versions
  pub devices-change : (f : Option (Slot ℕ) → Option (Slot ℕ))
      (g : Option (Slot (Table (Shape S))) → Option (Slot (Table (Shape S))))
      (grow : List (Table S) → List (Table S)) (slots : List (Option (Slot ℕ)))
      (versions : List (List (Table S))) (device : ℕ)
      → ((entry : Option (Slot ℕ)) → HasVersions (own_of versions device) entry
      → Is (grow (own_of versions device)) (f entry)
      (g (option_map (slot_of m (own_of versions device)) entry)))
      → HaveVersions slots versions
      → Are (change slots device f) (change versions device grow)
      (change (devices_of m slots versions) device g)
  devices-change f g grow [] [] device each have = search rules
  devices-change f g grow [] (own ∷ versions) device each have = search rules
  devices-change f g grow (first ∷ slots) [] device each have = search rules
  devices-change f g grow (first ∷ slots) (own ∷ versions) zero each have = search rules
  devices-change f g grow (first ∷ slots) (own ∷ versions) (suc device) each have =
      search (rules, devices-change f g grow slots versions device each have.1)

  -- one entry with a change inside
  pub entry-change : (f : Slot ℕ → Slot ℕ) (own more : List (Table S))
      (g : Slot (Table (Shape S)) → Slot (Table (Shape S)))
      → ((slot : Slot ℕ) → HasVersions own (Some slot)
      → (slot_of m more (f slot) ≡ g (slot_of m own slot)) × HasVersions more (Some (f slot)))
      → (entry : Option (Slot ℕ)) → HasVersions own entry
      → Is more (option_map f entry) (option_map g (option_map (slot_of m own) entry))
  entry-change f own more g each entry has = search rules

module _ {S : Type 0} (m : Meaning S) (own : List (Table S)) where
  -- a number's version, seen without the state of its targets, is a table
  abbrev pub Holds : ℕ → Table (Shape S) → Type 0
  Holds number held = option_map (image m) (slice_get own number) ≡ Some held

  -- the number of a version that is there holds what is seen of it
  number-holds : (o : Option ℕ) → IsOneOf own o
      → Both Holds o (option_map (image m) (version_at own o))
  number-holds None one = tt
  number-holds (Some number) one = search (rules, slice_get-within own number one)

  -- so a table is there where a number is
  pub number-there : (o : Option ℕ) → IsOneOf own o
      → Both Any (option_map (image m) (version_at own o)) o
  number-there None one = tt
  number-there (Some number) one = rw ((slice_get-within own number one).1) tt

  -- a number that holds a table is of a version that is there, and seen as it
  holds-seen : (o : Option ℕ) (held : Option (Table (Shape S))) → Both Holds o held
      → (option_map (image m) (version_at own o) ≡ held) × IsOneOf own o
  holds-seen None None both = (refl, tt)
  holds-seen (Some number) (Some held) both =
      let there = option_map-holds (image m) (slice_get own number) held both in
      (both, slice_get_within own number there.0 there.1)
  holds-seen _ _ both = absurd both

  -- a command changes a device by its tables as by their numbers, which are of versions that are
  -- there
  pub after-seen : (task : Task) (version : Option ℕ) (table : Option (Table (Shape S)))
      → Both Holds version table → (slot : Slot ℕ) → HasVersions own (Some slot)
      → (slot_of m own (slot_after task version slot)
      ≡ slot_after task table (slot_of m own slot))
      × HasVersions own (Some (slot_after task version slot))
  after-seen task version table both slot has =
      search (rules, after-alike, number-holds, holds-seen)

-- a number of a version is one among more versions
pub one-more : {L : Type 0} (own : List L) (table : L) (number : Option ℕ) → IsOneOf own number
    → IsOneOf (own ++ table ∷ []) number
one-more own table None one = tt
one-more own table (Some number) one = omega (arith, length_push own table, one)

-- the version of a number is the same among more versions
pub same-version : {L : Type 0} (own : List L) (table : L) (number : ℕ) → number < length own
    → slice_get (own ++ table ∷ []) number ≡ slice_get own number
same-version own table number within = slice_get-front own (table ∷ []) number within

-- a load puts the new version into the inactive slot
pub filled-seen : {S : Type 0} (m : Meaning S) (own : List (Table S)) (table : Table S)
    (task : Task) (slot : Slot ℕ) → HasVersions own (Some slot)
    → (slot_of m (own ++ table ∷ []) (slot_after task (Some (length own)) slot)
    ≡ slot_after task (Some (image m table)) (slot_of m own slot))
    × HasVersions (own ++ table ∷ []) (Some (slot_after task (Some (length own)) slot))
filled-seen m own table task slot has =
    let more = own ++ table ∷ [] in
    let after = after-seen m more task (Some (length own)) (Some (image m table))
    (ap (option_map (image m)) (pushed-there own table)) slot
    (one-more own table slot.live has.0, one-more own table slot.inactive has.1) in (
      after.0 ∙ ap (slot_after task (Some (image m table))) (search (rules, same-version)),
      after.1,
    )

-- a new device has its table live, if it has one, and it is a version that is there
pub first-seen : {S : Type 0} (m : Meaning S) (table : Option (Table S))
    → (slot_of m (with_version [] table) (created (option_map (λ _. 0) table))
    ≡ created (option_map (image m) table))
    × HasVersions (with_version [] table) (Some (created (option_map (λ _. 0) table)))
first-seen m table = search rules
