-- All tables of the walk are versions of their devices, where the script's creates are in order.
use Rattle.lab_model.proofs.Common.{rules, ◌≡◌, ℕ, zero, suc, List, [], ◌∷◌, ◌++◌, Option}
use Rattle.lab_model.proofs.Common.{Some, None, fold, ◌⊎◌, inl, inr, length, slice_get, take, refl}
use Rattle.lab_model.proofs.Common.{◌∙◌, subst, arith, option_map, length_push}
use Rattle.lab_model.proofs.Common.{slice_get-map, Meaning, Shape, created, option_or}
use Rattle.lab_model.proofs.Common.{named_version, change, Scenario, State, Slot, opening, Table}
use Rattle.lab_model.proofs.Common.{image, Devices, devices_image, slot_image, version_image, walk}
use Rattle.lab_model.proofs.Common.{walk_order, CreatesFrom, None-not-Some, Some-holds, joined-Some}
use Rattle.lab_model.proofs.Common.{change_numbered-cases, length-change, Lawful}
use Rattle.lab_model.specs.declared.micro.Micro.{Micro}
use Rattle.lab_model.specs.declared.micro.Order.{Order}
use Rattle.lab_model.specs.declared.micro.Order.TheVariants.{Create, Load, Clear, Begin, Drained}
use Rattle.lab_model.specs.declared.micro.Order.TheVariants.{Swap, Remove}
use Rattle.lab_model.specs.CreatesInOrder.{CreatesNext, created_after, CreatesInOrder}
use Rattle.law_slots.proofs.WalkRuns.{run-keeps-walk}
use Rattle.law_within_budget.specs.PotentialFalls.{KeepsVersions, TablesAreVersions}

-- an item of a list with one more: one as before, or the one behind them
push-cases : {X : Type 0} (xs : List X) (y : X) (place : ℕ) (x : X)
    → slice_get (xs ++ y ∷ []) place ≡ Some x
    → (slice_get xs place ≡ Some x) ⊎ ((place ≡ length xs) × (y ≡ x))
push-cases [] y zero x at = inr (refl, Some-holds at)
push-cases [] y (suc place) x at = absurd (None-not-Some at)
push-cases (z ∷ xs) y zero x at = inl at
push-cases (z ∷ xs) y (suc place) x at = grind (arith, push-cases xs y place x at)

module _ {S : Type 0} (m : Meaning S) (c : Scenario S) where
  -- a slot's table is a version of the device, if there is a table
  abbrev IsVersion : ℕ → Option (Table (Shape S)) → Type 0
  IsVersion device None = Unit {0}
  IsVersion device (Some table) = (version : ℕ) × (version_image m c device version ≡ Some table)

  -- so are both slots'
  abbrev AreVersions : ℕ → Option (Slot (Table (Shape S))) → Type 0
  AreVersions device None = Unit {0}
  AreVersions device (Some slot) = IsVersion device slot.live × IsVersion device slot.inactive

  -- of all devices
  abbrev AllVersions : Devices S → Type 0
  AllVersions devices = (device : ℕ) (entry : Option (Slot (Table (Shape S))))
      → slice_get devices device ≡ Some entry → AreVersions device entry

  -- a version's image is one
  IsVersion-version : (device version : ℕ) (o : Option (Table (Shape S)))
      → version_image m c device version ≡ o → IsVersion device o
  IsVersion-version device version o e = search rules

  -- so is a create's table
  IsVersion-first : (device : ℕ) (version : Option ℕ) → IsVersion device
      (option_map (image m) (named_version c device version))
  IsVersion-first device version = search rules

  -- a swap moves a table
  swapped_in-versions : (device : ℕ) (live inactive : Option (Table (Shape S)))
      → IsVersion device live → IsVersion device inactive
      → AreVersions device (Some (created (option_or inactive live)))
  swapped_in-versions device live inactive is_live is_inactive = search rules

  -- all are versions, of so many devices
  abbrev SoMany : ℕ → Devices S → Type 0
  SoMany count devices = AllVersions devices × (length devices ≡ count)

  -- so a step on a device leaves them
  changed-versions : (count device : ℕ) (devices : Devices S)
      (f : Option (Slot (Table (Shape S))) → Option (Slot (Table (Shape S))))
      → ((entry : Option (Slot (Table (Shape S)))) → AreVersions device entry
      → AreVersions device (f entry)) → SoMany count devices
      → SoMany count (change devices device f)
  changed-versions count device devices f keeps many = (
    λ place entry at. elim (change_numbered-cases devices f (suc device) (suc place) entry at) [
      | inl one ↦ search rules
      | inr other ↦ many.0 place entry other.1
    ],
    length-change devices device f ∙ many.1,
  )

  -- so does one on a slot
  slot-versions : (count device : ℕ) (devices : Devices S)
      (f : Slot (Table (Shape S)) → Slot (Table (Shape S)))
      → ((slot : Slot (Table (Shape S))) → AreVersions device (Some slot)
      → AreVersions device (Some (f slot))) → SoMany count devices
      → SoMany count (change devices device (option_map f))
  slot-versions count device devices f keeps = changed-versions count device devices
      (option_map f) each
    where
      each : (entry : Option (Slot (Table (Shape S)))) → AreVersions device entry
          → AreVersions device (option_map f entry)
      each None are = tt
      each (Some slot) are = keeps slot are

  -- all stay versions, and a create adds a device
  order-versions : (count : ℕ) (devices : Devices S) (order : Order) → CreatesNext count order
      → SoMany count devices → SoMany (created_after count order) (walk_order m c devices order)
  order-versions count devices (Create device version) next many =
      search (rules, push-cases, IsVersion-first, length_push)
  order-versions count devices (Load device version) next many =
      let loads = IsVersion-version device version (version_image m c device version) refl in
      slot-versions count device devices _ (λ slot are. (are.0, loads)) many
  order-versions count devices (Clear device) next many =
      slot-versions count device devices _ (λ slot are. (are.0, tt)) many
  order-versions count devices (Begin device) next many =
      slot-versions count device devices _ (λ slot are. are) many
  order-versions count devices (Drained device) next many =
      slot-versions count device devices _ (λ slot are. are) many
  order-versions count devices (Swap device) next many = slot-versions count device devices _
      (λ slot are. swapped_in-versions device slot.live slot.inactive are.0 are.1) many
  order-versions count devices (Remove device) next many =
      changed-versions count device devices _ (λ entry are. tt) many
  order-versions count devices _ next many = many

  -- step by step
  steps-versions : (count : ℕ) (devices : Devices S) (micros : List Micro)
      → CreatesFrom count micros → SoMany count devices
      → AllVersions (fold (λ ds micro. walk_order m c ds micro.order) devices micros)
  steps-versions count devices [] creates many = many.0
  steps-versions count devices (micro ∷ micros) creates many =
      steps-versions (created_after count micro.order) (walk_order m c devices micro.order) micros
      creates.1 (order-versions count devices micro.order creates.0 many)

  -- the first steps of a script are in order if all are
  creates-take : (n : ℕ) (micros : List Micro) (count : ℕ) → CreatesFrom count micros
      → CreatesFrom count (take n micros)
  creates-take (suc n) (micro ∷ more) count is = (is.0, creates-take n more _ is.1)
  creates-take _ _ _ is = tt

  -- all tables of the walk are versions
  walk-versions : CreatesInOrder c → (n : ℕ) → AllVersions (walk m c n)
  walk-versions creates n =
      steps-versions 0 [] (take n c.micros) (creates-take n c.micros 0 creates)
      (λ device entry at. absurd (None-not-Some at), refl)

  -- a state whose devices are the walk's has versions as its live tables
  pub walk-gives-versions : CreatesInOrder c → (s : State S)
      → devices_image m s.devices ≡ walk m c s.done → TablesAreVersions m c s
  walk-gives-versions creates s kept device slot table there live =
      let at : slice_get (devices_image m s.devices) device ≡ Some (Some (slot_image m slot)) =
      search (rules, slice_get-map, joined-Some) in
      let are = walk-versions creates s.done device (Some (slot_image m slot))
      (subst (λ devices. slice_get devices device ≡ Some (Some (slot_image m slot))) kept at) in
      subst (λ o. IsVersion device (option_map (image m) o)) live are.0

-- each run keeps to the walk, so it keeps versions
pub keeps-versions : {S : Type 0} (m : Meaning S) → Lawful m → (c : Scenario S)
    → CreatesInOrder c → KeepsVersions m c (opening c)
keeps-versions m lawful c creates events reached run =
    walk-gives-versions m c creates reached (run-keeps-walk m lawful c events reached run).0
