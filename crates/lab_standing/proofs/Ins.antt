-- Items of two lists end to end.
use Rattle.lab_model.proofs.Common.{◌≡◌, ◌⊎◌, inl, inr, List, [], ◌∷◌, ◌++◌, refl, sym, In}
use Rattle.lab_model.proofs.Common.{In-append_right, append-member}

-- the item at the end
pub in-last : {X : Type 0} (x : X) (xs : List X) → In x (xs ++ x ∷ [])
in-last x xs = In-append_right x xs (x ∷ []) (inl refl)

-- an item is the last one, or one before it
pub last-cases : {X : Type 0} (x y : X) (xs : List X) → In x (xs ++ y ∷ [])
    → In x xs ⊎ (x ≡ y)
last-cases x y xs at = elim (append-member x xs (y ∷ []) at) as (λ w. In x xs ⊎ (x ≡ y)) [
  | inl before ↦ inl before
  | inr (inl last) ↦ inr (sym last)
  | inr (inr none) ↦ absurd none
]
