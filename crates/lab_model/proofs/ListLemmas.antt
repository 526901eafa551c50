-- Items of lists by their place, and sums over lists that are changed at a place, joined or zipped.
use Rattle.std.proofs.Common.{rules, ◌≡◌, ℕ, zero, suc, ◌+◌, ◌≤◌, List, [], ◌∷◌, ◌++◌, Option, Some}
use Rattle.std.proofs.Common.{None, map, sum, filter_map, zip, slice_get, unwrap_or, is_some, refl}
use Rattle.std.proofs.Common.{sym, ap, ◌∙◌, arith, true≢false, le_refl, ◌<◌, take, length}
use Rattle.std.proofs.lemmas.List.Sums.{sum_by-cons}
use Rattle.lab_model.specs.Lists.{change, change_numbered, numbered}
use Rattle.std.proofs.Math.Numerals.{add-one}
use Rattle.std.specs.Option.{option_flatten}

-- the sum of what f says of each item
abbrev pub total : {X : Type 0} → (X → ℕ) → List X → ℕ
total f [] = 0
total f (x ∷ xs) = f x + total f xs

-- what f says of an option's value; 0 of none
abbrev pub of_entry : {X : Type 0} → (X → ℕ) → Option X → ℕ
of_entry f None = 0
of_entry f (Some x) = f x

-- an empty option holds nothing
pub None-not-Some : {X : Type 0} {x : X} → None ≡ Some x → ⊥
None-not-Some e = true≢false (sym (ap is_some e))

-- what two equal options hold is equal
pub Some-holds : {X : Type 0} {x y : X} → Some x ≡ Some y → x ≡ y
Some-holds {x = x} e = ap (λ o. unwrap_or o x) e

-- the sum of mapped items is the total
pub sum-total : {X : Type 0} (f : X → ℕ) (xs : List X) → sum (map f xs) ≡ total f xs
sum-total f [] = refl
sum-total f (x ∷ xs) = sum_by-cons (λ n. n) (f x) (map f xs) ∙ ap (λ n. f x + n) (sum-total f xs)

-- the total over joined lists
pub total-append : {X : Type 0} (f : X → ℕ) (xs ys : List X) → total f
    (xs ++ ys) ≡ total f xs + total f ys
total-append f [] ys = omega arith
total-append f (x ∷ xs) ys = omega (arith, total-append f xs ys)

-- the total over items that are all there
pub total-there : {X : Type 0} (f : X → ℕ) (xs : List X) → total (of_entry f)
    (map (λ x. Some x) xs) ≡ total f xs
total-there f [] = refl
total-there f (x ∷ xs) = ap (λ n. f x + n) (total-there f xs)

-- a change at an item takes what it was worth and adds what it is worth now
pub total-change : {X : Type 0} (w : X → ℕ) (g : X → X) (xs : List X) (i : ℕ) (x : X)
    → slice_get xs i ≡ Some x → total w (change xs i g) + w x ≡ total w xs + w (g x)
total-change w g (y ∷ xs) (suc i) x at = omega (arith, total-change w g xs i x at)
total-change w g xs i x at = grind arith

module _ {X : Type 0} (w : X → ℕ) (g : X → X) (same : (x : X) → w (g x) ≡ w x) where
  -- a change that leaves an item's worth leaves the total
  pub total-change-same : (xs : List X) (i : ℕ) → total w (change xs i g) ≡ total w xs
  total-change-same [] i = refl
  total-change-same (x ∷ xs) zero = ap (λ n. n + total w xs) (same x)
  total-change-same (x ∷ xs) (suc i) = ap (λ n. w x + n) (total-change-same xs i)

  -- the same of a change by number
  pub total-numbered-same : (xs : List X) (n : ℕ) → total w (change_numbered xs n g) ≡ total w xs
  total-numbered-same xs n = search (rules, total-change-same)

-- an option in an option is the value's
pub joined-Some : {X : Type 0} (o : Option (Option X)) (x : X) → option_flatten o ≡ Some x
    → o ≡ Some (Some x)
joined-Some o x e = search rules

-- a change by number at an entry that is there
pub total-numbered-entry : {X : Type 0} (w : Option X → ℕ) (g : Option X → Option X)
    (xs : List (Option X)) (n : ℕ) (x : X) → option_flatten (numbered xs n) ≡ Some x
    → total w (change_numbered xs n g) + w (Some x) ≡ total w xs + w (g (Some x))
total-numbered-entry w g xs n x at = search (rules, None-not-Some, total-change, joined-Some)

module _ {P L : Type 0} (w : P × L → ℕ) (g : L → L) where
  -- a change in the second of two lists, side by side
  pub total-zip-change : (ps : List P) (ls : List L) (i : ℕ) (p : P) (l : L)
      → slice_get ps i ≡ Some p → slice_get ls i ≡ Some l
      → total w (zip ps (change ls i g)) + w (p, l) ≡ total w (zip ps ls) + w (p, g l)
  total-zip-change (q ∷ ps) (k ∷ ls) (suc i) p l at_p at_l =
      search (rules, total-zip-change ps ls i p l at_p at_l)
  total-zip-change ps ls i p l at_p at_l = search rules

  -- by number
  pub total-zip-numbered : (ps : List P) (ls : List L) (n : ℕ) (p : P) (l : L)
      → numbered ps n ≡ Some p → numbered ls n ≡ Some l
      → total w (zip ps (change_numbered ls n g)) + w (p, l) ≡ total w (zip ps ls) + w (p, g l)
  total-zip-numbered ps ls n p l at_p at_l = search (rules, None-not-Some, total-zip-change)

  module _ (same : (p : P) (l : L) → w (p, g l) ≡ w (p, l)) where
    -- a change in the second list that leaves the worth of each pair
    pub total-zip-change-same : (ps : List P) (ls : List L) (i : ℕ)
        → total w (zip ps (change ls i g)) ≡ total w (zip ps ls)
    total-zip-change-same (p ∷ ps) (l ∷ ls) (suc i) = search (rules, total-zip-change-same ps ls i)
    total-zip-change-same ps ls i = search rules

    -- the same by number
    pub total-zip-numbered-same : (ps : List P) (ls : List L) (n : ℕ)
        → total w (zip ps (change_numbered ls n g)) ≡ total w (zip ps ls)
    total-zip-numbered-same ps ls n = search (rules, total-zip-change-same)

    -- a change of all of the second list that leaves the worth of each pair
    pub total-zip-map-same : (ps : List P) (ls : List L)
        → total w (zip ps (map g ls)) ≡ total w (zip ps ls)
    total-zip-map-same (p ∷ ps) (l ∷ ls) = rw (same p l, total-zip-map-same ps ls)
    total-zip-map-same ps ls = search rules

-- the total is monotonous in what each item is worth
pub total-le : {X : Type 0} (f g : X → ℕ) → ((x : X) → f x ≤ g x) → (xs : List X)
    → total f xs ≤ total g xs
total-le f g le [] = le_refl 0
total-le f g le (x ∷ xs) = omega (arith, le x, total-le f g le xs)

-- nothing is worth anything where no item is
pub total-none : {X : Type 0} (f : X → ℕ) → ((x : X) → f x ≤ 0) → (xs : List X) → total f xs ≤ 0
total-none f none [] = le_refl 0
total-none f none (x ∷ xs) = omega (arith, none x, total-none f none xs)

-- and over a whole list
pub total-filter_map : {X Y : Type 0} (f : Y → ℕ) (h : X → Option Y) (xs : List X)
    → total f (filter_map h xs) ≡ total (λ x. of_entry f (h x)) xs
total-filter_map f h [] = search rules
total-filter_map f h (x ∷ xs) = search (rules, total-filter_map f h xs)

-- so the sum of the items that are there
pub sum-there : {X : Type 0} (f : X → ℕ) (xs : List (Option X))
    → sum (map f (filter_map (λ entry. entry) xs)) ≡ total (of_entry f) xs
sum-there f xs = search (rules, sum-total, total-filter_map)

module _ {X : Type 0} where
  -- a place within a list has an item
  pub slice_get-within : (xs : List X) (i : ℕ) → i < length xs → (x : X) × (slice_get xs i ≡ Some x)
  slice_get-within [] i within = absurd (omega (arith, within))
  slice_get-within (x ∷ xs) zero within = (x, refl)
  slice_get-within (x ∷ xs) (suc i) within = slice_get-within xs i (omega (arith, within))

  -- an item of the first of two lists
  pub slice_get-front : (xs ys : List X) (i : ℕ) → i < length xs
      → slice_get (xs ++ ys) i ≡ slice_get xs i
  slice_get-front (x ∷ xs) ys (suc i) inside = slice_get-front xs ys i (omega arith)
  slice_get-front xs ys i inside = search rules

  -- an item stays where a list gets longer
  pub slice_get-append : (xs ys : List X) (i : ℕ) (x : X) → slice_get xs i ≡ Some x
      → slice_get (xs ++ ys) i ≡ Some x
  slice_get-append (y ∷ xs) ys (suc i) x at = slice_get-append xs ys i x at
  slice_get-append xs ys i x at = search rules

-- one item more of the first items is the next one, where the count is a successor
take-suc-get : {X : Type 0} (xs : List X) (n : ℕ) (x : X) → slice_get xs n ≡ Some x
    → take (suc n) xs ≡ take n xs ++ x ∷ []
take-suc-get (y ∷ ys) (suc n) x found = ap (λ zs. y ∷ zs) (take-suc-get ys n x found)
take-suc-get xs n x found = search rules

-- one item more of the first items is the next one
pub take-more : {X : Type 0} (xs : List X) (n : ℕ) (x : X) → slice_get xs n ≡ Some x
    → take (n + 1) xs ≡ take n xs ++ x ∷ []
take-more xs n x found = rw add-one (take-suc-get xs n x found)
