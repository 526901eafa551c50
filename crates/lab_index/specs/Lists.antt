-- Words on lists of items by number (this project's own).
use Rattle.std.specs.Prelude.{◌≡◌, ℕ, suc, zero, ◌<◌, ◌≤◌, List, [], ◌∷◌, IsSome, Option, Some, None, slice_get}

-- an option in an option, as one
abbrev pub joined : {X : Type 0} → Option (Option X) → Option X
joined None = None
joined (Some inner) = inner

-- the item of this number, counted from 1
abbrev pub numbered : {X : Type 0} → List X → ℕ → Option X
numbered xs zero = None
numbered xs (suc place) = slice_get xs place

-- the list with f at this place; a place past the end changes nothing
abbrev pub change : {X : Type 0} → List X → ℕ → (X → X) → List X
change [] place f = []
change (x ∷ xs) zero f = f x ∷ xs
change (x ∷ xs) (suc place) f = x ∷ change xs place f

-- the list with f at the item of this number, counted from 1
abbrev pub change_numbered : {X : Type 0} → List X → ℕ → (X → X) → List X
change_numbered xs zero f = xs
change_numbered xs (suc place) f = change xs place f

-- the item of this number isn't gone, and is the first such one from a number on
pub record IsNextFrom {X : Type 0} (items : List (Option X)) (least n : ℕ) : Type 0 where
  pub from : least ≤ n
  pub there : IsSome (joined (numbered items n))
  pub first : (other : ℕ) → least ≤ other → other < n → joined (numbered items other) ≡ None

-- no item from a number on is left
abbrev pub AreGoneFrom : {X : Type 0} → List (Option X) → ℕ → Type 0
AreGoneFrom items from = (other : ℕ) → from ≤ other → joined (numbered items other) ≡ None
