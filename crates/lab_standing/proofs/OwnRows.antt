-- Rows by their numbers: at the end, past it, and after one was changed.
use Rattle.lab_model.proofs.Common.{◌≡◌, ℕ, zero, suc, ◌<◌, ◌≤◌, List, [], ◌∷◌, ◌++◌, length, None}
use Rattle.lab_model.proofs.Common.{refl, slice_get, arith, change, In, ap, unwrap_or}
use Rattle.lab_model.proofs.Common.{slice_get_past, slice_get-front, slice_get-within}
use Rattle.lab_rulebook.proofs.PlaceLemmas.{change-there}
use Rattle.lab_standing.specs.Image.{own_of}

-- past the end there is no row
pub own-nil : {X : Type 0} (device : ℕ) → own_of {L = X} [] device ≡ []
own-nil zero = refl
own-nil (suc device) = own-nil device

-- a row is the one at its place, if there is one
pub own-at : {X : Type 0} (rows : List (List X)) (device : ℕ)
    → own_of rows device ≡ unwrap_or (slice_get rows device) []
own-at [] device = own-nil device
own-at (row ∷ rows) zero = refl
own-at (row ∷ rows) (suc device) = own-at rows device

-- past the end there is no row
pub own-past : {X : Type 0} (rows : List (List X)) (device : ℕ) → length rows ≤ device
    → own_of rows device ≡ []
own-past rows device past = rw (own-at rows device, slice_get_past rows device past) refl

-- a row before the end of the first rows
pub own-before : {X : Type 0} (rows more : List (List X)) (device : ℕ) → device < length rows
    → own_of (rows ++ more) device ≡ own_of rows device
own-before rows more device within = rw (own-at (rows ++ more) device, own-at rows device)
    (ap (λ o. unwrap_or o []) (slice_get-front rows more device within))

-- the row at the end
pub own-last : {X : Type 0} (rows : List (List X)) (row : List X)
    → own_of (rows ++ row ∷ []) (length rows) ≡ row
own-last [] row = refl
own-last (first ∷ rows) row = own-last rows row

-- a device that refers to another is one of the devices
pub own-within : (rows : List (List ℕ)) (device n : ℕ) → In n (own_of rows device)
    → device < length rows
own-within rows device n at = grind (arith, own-past rows device)

-- the row that was changed
pub own-changed : {X : Type 0} (rows : List (List X)) (device : ℕ) (f : List X → List X)
    → device < length rows → own_of (change rows device f) device ≡ f (own_of rows device)
own-changed rows device f within = let there = slice_get-within rows device within in
    simp (own-at, change-there f rows device there.0 there.1, there.1)

-- the others are as before
pub own-other : {X : Type 0} (rows : List (List X)) (device other : ℕ) (f : List X → List X)
    → (other ≡ device → ⊥) → own_of (change rows device f) other ≡ own_of rows other
own-other [] device other f differs = refl
own-other (row ∷ rows) zero zero f differs = absurd (differs refl)
own-other (row ∷ rows) zero (suc other) f differs = refl
own-other (row ∷ rows) (suc device) zero f differs = refl
own-other (row ∷ rows) (suc device) (suc other) f differs =
    own-other rows device other f (λ same. differs (omega (arith, same)))

-- a place where there is no row
pub own-none : {X : Type 0} (rows : List (List X)) (device : ℕ) → slice_get rows device ≡ None
    → own_of rows device ≡ []
own-none rows device none = rw (own-at rows device, none) refl
