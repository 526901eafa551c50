-- Words on lists that the definitions of the machine share (this project's own).
use Rattle.std.specs.Prelude.{ℕ, suc, zero, List, [], ◌∷◌, Option, None, slice_get}

-- the item of this number, counted from 1
abbrev pub numbered : {X : Type 0} → List X → ℕ → Option X
numbered xs zero = None
numbered xs (suc place) = slice_get xs place

-- the list with f at this place; a place past the end changes nothing
abbrev pub change : {X : Type 0} → List X → ℕ → (X → X) → List X
change [] place f = []
change (x ∷ xs) zero f = f x ∷ xs
change (x ∷ xs) (suc place) f = x ∷ change xs place f

-- the list with f at the item of this number, counted from 1
abbrev pub change_numbered : {X : Type 0} → List X → ℕ → (X → X) → List X
change_numbered xs zero f = xs
change_numbered xs (suc place) f = change xs place f
