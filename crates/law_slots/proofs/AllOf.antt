-- What holds of all items of a list.
use Rattle.lab_model.proofs.Common.{◌≡◌, ℕ, zero, suc, List, [], ◌∷◌, Some, map, slice_get, refl}
use Rattle.lab_model.proofs.Common.{rules, None-not-Some}

-- it holds of each item
abbrev pub AllOf : {X : Type 0} → (X → Type 0) → List X → Type 0
AllOf P [] = Unit {0}
AllOf P (x ∷ xs) = P x × AllOf P xs

-- so of the one of a place
pub all-at : {X : Type 0} (P : X → Type 0) (xs : List X) → AllOf P xs → (place : ℕ) (x : X)
    → slice_get xs place ≡ Some x → P x
all-at P [] all place x is = absurd (None-not-Some is)
all-at P (y ∷ xs) all place x is = search (rules, all-at P xs)

-- what holds at each place holds of all
pub all-from : {X : Type 0} (P : X → Type 0) (xs : List X)
    → ((place : ℕ) (x : X) → slice_get xs place ≡ Some x → P x) → AllOf P xs
all-from P [] each = tt
all-from P (x ∷ xs) each = (each zero x refl, all-from P xs (λ place y is. each (suc place) y is))

-- of what f makes of each
pub all-map : {X Y : Type 0} (P : Y → Type 0) (f : X → Y) (xs : List X)
    → AllOf (λ x. P (f x)) xs → AllOf P (map f xs)
all-map P f [] all = tt
all-map P f (x ∷ xs) all = (all.0, all-map P f xs all.1)
