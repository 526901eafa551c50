-- Entries by their numbers: a change at a number is a write of what it makes of the entry there.
use Rattle.lab_model.proofs.Common.{rules, ◌≡◌, ℕ, suc, zero, List, [], ◌∷◌, Option, Some, refl, ap}
use Rattle.lab_model.proofs.Common.{◌∙◌, length, IsSome, slice_set, option_map, slice_get_read}
use Rattle.lab_model.proofs.Common.{slice_get_within, change, option_flatten, Slot, slot_at}
use Rattle.std.proofs.Math.ListN.{get_or}
use Rattle.std.specs.List.{slice_get}
use Rattle.lab_model.specs.Slots.{HasDevice}

-- a write of the item that is there changes nothing
pub set-same : {X : Type 0} (xs : List X) (i : ℕ) (x : X) → x ≡ get_or xs i x
    → slice_set xs i x ≡ xs
set-same [] i x is = refl
set-same (y ∷ ys) zero x is = rw is refl
set-same (y ∷ ys) (suc i) x is = ap (λ zs. y ∷ zs) (set-same ys i x is)

-- where a device stands, its number has an entry
has_entry : {L : Type 0} (found : Option (Option (Slot L))) → IsSome (option_flatten found)
    → (entry : Option (Slot L)) × (found ≡ Some entry)
has_entry found there = search rules

-- the device of a number is the one in the entry there
pub slot_at-entry : {L : Type 0} (slots : List (Option (Slot L))) (device : ℕ)
    (entry : Option (Slot L)) (slot : Slot L) → HasDevice slots device
    → entry ≡ get_or slots device entry → entry ≡ Some slot → slot_at slots device ≡ Some slot
slot_at-entry slots device entry slot there is holds =
    let found = has_entry (slice_get slots device) there in
    let within = slice_get_within slots device found.0 found.1 in
    ap option_flatten (slice_get_read slots (length slots) device entry refl within is) ∙ holds

-- a device in place of the one that is there is a change of it
pub change-there : {L : Type 0} (f : Slot L → Slot L) (slots : List (Option (Slot L)))
    (device : ℕ) (slot next : Slot L) → slot_at slots device ≡ Some slot → next ≡ f slot
    → change slots device (option_map (λ _. next)) ≡ change slots device (option_map f)
change-there f [] device slot next there is = refl
change-there f (entry ∷ slots) zero slot next there is = rw (there, is) refl
change-there f (entry ∷ slots) (suc device) slot next there is =
    ap (λ rest. entry ∷ rest) (change-there f slots device slot next there is)
