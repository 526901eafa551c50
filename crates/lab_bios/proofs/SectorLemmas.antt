-- A change at a place past the end of a list, by a name that code can give.
use Rattle.lab_model.proofs.Common.{◌≡◌, ◌∙◌, ◌≤◌, ◌∷◌, ℕ, zero, suc, List, [], ap, refl, length, change, change-past}
use Rattle.std.specs.Prelude.{IfSome, slice_get, slice_set}

-- a list stays as it is
pub change_past : {X : Type 0} (xs : List X) (i : ℕ) (f : X → X) → length xs ≤ i
    → xs ≡ change xs i f
change_past xs i f past = change-past xs i f past

-- where an item is f of the one whose place it takes, that one is changed by f
pub set_change : {X : Type 0} (xs : List X) (i : ℕ) (x y : X) (f : X → X)
    → IfSome (slice_get xs i) (λ there. x ≡ there) → y ≡ f x → slice_set xs i y ≡ change xs i f
set_change [] i x y f same is = refl
set_change (there ∷ xs) zero x y f same is = ap (λ it. it ∷ xs) (is ∙ ap f same)
set_change (there ∷ xs) (suc i) x y f same is =
    ap (λ others. there ∷ others) (set_change xs i x y f same is)
