-- Walks that are alike stay so, and have the same steps. Names: what is done, and alike.
use Rattle.lab_model.proofs.Common.{rules, ◌≡◌, ℕ, zero, suc, List, [], ◌∷◌, ◌++◌, Option, Some}
use Rattle.lab_model.proofs.Common.{None, refl, length, arith, option_map, change, created}
use Rattle.lab_model.proofs.Common.{length-change, length_push, slot_at, Slot}
use Rattle.lab_script.specs.Alike.{Both, SlotsAlike, WalksAlike}
use Rattle.lab_script.specs.Slots.{slot_after}
use Rattle.lab_script.specs.Task.{Task, remove, create, on}
use Rattle.lab_script.specs.Walk.{Walk, after, change_found, devices_after, found_by, steps_of}

module _ {L K : Type 0} (R : L → K → Type 0) where
  -- a command, of which a load has related tables
  pub after-alike : (task : Task) (x : Option L) (y : Option K) → Both R x y → (a : Slot L)
      (b : Slot K) → SlotsAlike R a b → SlotsAlike R (slot_after task x a) (slot_after task y b)
  after-alike task x y both a b alike = search rules

  -- the devices at each number
  abbrev At : List (Option (Slot L)) → List (Option (Slot K)) → Type 0
  At xs ys = (number : ℕ) → Both (SlotsAlike R) (slot_at xs number) (slot_at ys number)

  -- a device more
  push-at : (xs : List (Option (Slot L))) (ys : List (Option (Slot K))) → length xs ≡ length ys
      → At xs ys → (o : Option (Slot L)) (p : Option (Slot K)) → Both (SlotsAlike R) o p
      → At (xs ++ o ∷ []) (ys ++ p ∷ [])
  push-at [] [] made at o p both zero = both
  push-at [] [] made at o p both (suc number) = tt
  push-at (x ∷ xs) (y ∷ ys) made at o p both zero = at 0
  push-at (x ∷ xs) (y ∷ ys) made at o p both (suc number) =
      push-at xs ys (omega arith) (λ n. at (suc n)) o p both number
  push-at _ _ made at o p both number = absurd (omega arith)

  -- a device that is changed
  change-at : (xs : List (Option (Slot L))) (ys : List (Option (Slot K))) → length xs ≡ length ys
      → At xs ys → (f : Option (Slot L) → Option (Slot L)) (g : Option (Slot K) → Option (Slot K))
      → ((o : Option (Slot L)) (p : Option (Slot K)) → Both (SlotsAlike R) o p
      → Both (SlotsAlike R) (f o) (g p)) → (place : ℕ) → At (change xs place f) (change ys place g)
  change-at [] [] made at f g keep place number = tt
  change-at (x ∷ xs) (y ∷ ys) made at f g keep zero zero = keep x y (at 0)
  change-at (x ∷ xs) (y ∷ ys) made at f g keep zero (suc number) = at (suc number)
  change-at (x ∷ xs) (y ∷ ys) made at f g keep (suc place) zero = at 0
  change-at (x ∷ xs) (y ∷ ys) made at f g keep (suc place) (suc number) =
      change-at xs ys (omega arith) (λ n. at (suc n)) f g keep place number
  change-at _ _ made at f g keep place number = absurd (omega arith)

  module _ (w : Walk L) (v : Walk K) (alike : WalksAlike R w v) where
    -- the steps of a command
    pub steps-same : (task : Task) → steps_of w task ≡ steps_of v task
    steps-same task = search rules

    -- the devices after a change of the one that is found
    found-alike : (f : Option (Slot L) → Option (Slot L)) (g : Option (Slot K) → Option (Slot K))
        → ((o : Option (Slot L)) (p : Option (Slot K)) → Both (SlotsAlike R) o p
        → Both (SlotsAlike R) (f o) (g p)) → (found : Option ℕ)
        → (length (change_found w.devices found f) ≡ length (change_found v.devices found g))
        × At (change_found w.devices found f) (change_found v.devices found g)
    found-alike f g keep found = search (rules, length-change, change-at)

    -- the devices after a command
    devices-alike : (task : Task) (x : Option L) (y : Option K) → Both R x y → (found : Option ℕ)
        → (length (devices_after w.devices found task x)
        ≡ length (devices_after v.devices found task y))
        × At (devices_after w.devices found task x) (devices_after v.devices found task y)
    devices-alike (create name chosen) x y both found = (
      omega (
        arith,
        length_push w.devices (Some (created x)),
        length_push v.devices (Some (created y)),
        alike.made,
      ),
      push-at w.devices v.devices alike.made alike.devices _ _
          (record { live = both; inactive = tt; mode = refl }),
    )
    devices-alike (on name remove) x y both found =
        found-alike (λ o. None) (λ p. None) (λ o p alike. tt) found
    devices-alike task x y both found =
        let f = option_map (slot_after task x) in
        let g = option_map (slot_after task y) in
        let changed = found-alike f g (search (rules, tt)) found in
        assumption changed

    -- both walks after a command, with related tables if it asks for one
    pub walks-after : (task : Task) (x : Option L) (y : Option K) → Both R x y
        → WalksAlike R (after w task x) (after v task y)
    walks-after task x y both =
        search (rules, devices-alike task x y both (found_by w.device_of task))
