-- A change of the item of a number, counted from 1, as a write at its place.
use Rattle.lab_model.proofs.Common.{rules, ◌≡◌, ◌≤◌, ℕ, suc, List, length, slice_set}
use Rattle.lab_model.proofs.Common.{change_numbered, change-past, change-set}
use Rattle.std.proofs.Math.ListN.{get_or}

-- a change of the item of a number, one more than its place, is a write there
pub set_numbered : {X : Type 0} (xs : List X) (n i : ℕ) (f : X → X) (x y : X) → n ≡ suc i
    → x ≡ get_or xs i x → y ≡ f x → slice_set xs i y ≡ change_numbered xs n f
set_numbered xs n i f x y number is made = search (rules, change-set)

-- and one past the end
pub past_numbered : {X : Type 0} (xs : List X) (n i : ℕ) (f : X → X) → n ≡ suc i
    → length xs ≤ i → xs ≡ change_numbered xs n f
past_numbered xs n i f number past = rw number (change-past xs i f past)
