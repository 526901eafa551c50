-- Lists that are filled up with one element.
use Rattle.std.proofs.Common.{◌≡◌, ℕ, zero, suc, List, [], ◌∷◌, ◌++◌, get_or, replicate, refl}

module _ {A : Type 0} (x : A) where
  -- wherever one that has no other element is read, it is that one
  pub get_or-fill : (n k : ℕ) → get_or (replicate n x) k x ≡ x
  get_or-fill zero k = refl
  get_or-fill (suc n) zero = refl
  get_or-fill (suc n) (suc k) = get_or-fill n k

  -- behind a list it changes nothing that is read
  pub get_or-filled : (xs : List A) (n k : ℕ) → get_or (xs ++ replicate n x) k x ≡ get_or xs k x
  get_or-filled [] n k = get_or-fill n k
  get_or-filled (y ∷ xs) n zero = refl
  get_or-filled (y ∷ xs) n (suc k) = get_or-filled xs n k
