-- A list that is sorted by an order, ties in the order that they had before, is one list.
use Rattle.std.proofs.Common.{◌≡◌, ◌∙◌, ◌<◌, ◌+◌, ◌&&◌, ℕ, suc, Bool, true, false, not, List, [], ◌∷◌, sym, refl, subst, length, inl, inr, arith, true≢false}
use Rattle.std.specs.List.{AllByRecursion, filter, slice_index_or}
use Rattle.std.specs.List.Sorted.{IsSortedBy, ties}
use Rattle.std.specs.Cmp.{IsStrictWeakOrder}
use Rattle.std.proofs.lemmas.Bool.{cases_Bool}
use Rattle.std.proofs.lemmas.List.Sorted.{sorted_far}

-- what holds of all items holds of the first that a test keeps
kept-first : {X : Type 0} (P : X → Type 0) (keeps : X → Bool) (xs : List X) (y : X)
    (rest : List X) → AllByRecursion P xs → filter keeps xs ≡ y ∷ rest → P y
kept-first P keeps [] y rest all is = cc
kept-first P keeps (x ∷ xs) y rest all is = elim (cases_Bool (keeps x)) [
  | inl kept ↦
      let first : x ∷ filter keeps xs ≡ y ∷ rest = rw kept at is in
      let same : x ≡ y = cc in subst P same all.0
  | inr left ↦ kept-first P keeps xs y rest all.1 (rw left at is)
]

-- a first item that a test keeps comes first
filter-kept : {X : Type 0} (keeps : X → Bool) (x : X) (xs : List X) → keeps x ≡ true
    → filter keeps (x ∷ xs) ≡ x ∷ filter keeps xs
filter-kept keeps x xs kept = rw kept refl

-- and one that it leaves out does not
filter-left : {X : Type 0} (keeps : X → Bool) (x : X) (xs : List X) → keeps x ≡ false
    → filter keeps (x ∷ xs) ≡ filter keeps xs
filter-left keeps x xs left = rw left refl

module _ {X : Type 0} (lt : X → X → Bool) (order : IsStrictWeakOrder lt) where
  -- an item ties with itself
  ties-itself : (x : X) → ties lt x x ≡ true
  ties-itself x = elim (cases_Bool (lt x x)) [
    | inl less ↦ absurd (true≢false (sym less ∙ order.one_way x x less))
    | inr not_less ↦ rw not_less refl
  ]

  -- none of the items behind the first is less than it
  none-less : (x : X) (xs : List X)
      → ((k : ℕ) (d : X) → k < length xs → lt (slice_index_or xs k d) x ≡ false)
      → AllByRecursion (λ y. lt y x ≡ false) xs
  none-less x [] each = tt
  none-less x (y ∷ ys) each = (
    each 0 y (omega arith),
    none-less x ys (λ k d less. each (suc k) d (omega (arith, less))),
  )

  -- so it is in a sorted list
  first-least : (x : X) (xs : List X) → IsSortedBy lt (x ∷ xs)
      → AllByRecursion (λ y. lt y x ≡ false) xs
  first-least x xs sorted = none-less x xs (λ k d less.
      sorted_far lt order (x ∷ xs) sorted 0 (suc k) d (omega arith) (omega (arith, less)))

  -- a sorted list without its first item is sorted
  sorted-rest : (x : X) (xs : List X) → IsSortedBy lt (x ∷ xs) → IsSortedBy lt xs
  sorted-rest x xs sorted = λ k d low high.
      let next : suc k + 1 ≡ suc (k + 1) = omega arith in
      subst (λ place. lt (slice_index_or (x ∷ xs) place d) (slice_index_or xs k d) ≡ false) next
      (sorted (suc k) d (omega arith) (omega (arith, high)))

  -- the first of a sorted list is not behind the first of another one with the same ties
  first-tied : (y z : X) (ys zs : List X) → IsSortedBy lt (z ∷ zs)
      → filter (ties lt y) (y ∷ ys) ≡ filter (ties lt y) (z ∷ zs) → ties lt y z ≡ false
      → lt y z ≡ false
  first-tied y z ys zs sorted same apart =
      let there = sym (filter-left (ties lt y) z zs apart) ∙ sym same
      ∙ filter-kept (ties lt y) y ys (ties-itself y) in
      kept-first (λ x. lt x z ≡ false) (ties lt y) zs y _ (first-least z zs sorted) there

  -- two items tie either way
  ties-back : (y z : X) → ties lt y z ≡ ties lt z y
  ties-back y z = by_test (lt y z) (lt z y)
    where
      by_test : (a b : Bool) → (not a && not b) ≡ (not b && not a)
      by_test true true = refl
      by_test true false = refl
      by_test false true = refl
      by_test false false = refl

  -- what both lists keep behind a first item that they share
  rest-kept : (keeps : X → Bool) (x : X) (ys zs : List X)
      → filter keeps (x ∷ ys) ≡ filter keeps (x ∷ zs) → filter keeps ys ≡ filter keeps zs
  rest-kept keeps x ys zs same = elim (cases_Bool (keeps x)) [
    | inl kept ↦
        let whole : x ∷ filter keeps ys ≡ x ∷ filter keeps zs = rw kept at same in cc
    | inr left ↦ rw left at same
  ]

  -- sorted lists with the same ties are one
  pub sorted-one : (ys zs : List X) → IsSortedBy lt ys → IsSortedBy lt zs
      → ((x : X) → filter (ties lt x) ys ≡ filter (ties lt x) zs) → ys ≡ zs
  sorted-one [] [] first second same = refl
  sorted-one [] (z ∷ zs) first second same =
      let none = same z ∙ filter-kept (ties lt z) z zs (ties-itself z) in cc
  sorted-one (y ∷ ys) [] first second same =
      let none = sym (filter-kept (ties lt y) y ys (ties-itself y)) ∙ same y in cc
  sorted-one (y ∷ ys) (z ∷ zs) first second same = elim (cases_Bool (ties lt y z)) [
    | inl tied ↦
        let both = sym (filter-kept (ties lt y) y ys (ties-itself y)) ∙ same y
        ∙ filter-kept (ties lt y) z zs tied in
        let head : y ≡ z = cc in
        let rest = sorted-one ys zs (sorted-rest y ys first) (sorted-rest z zs second)
        (λ x. rest-kept (ties lt x) z ys zs (subst (λ item. filter (ties lt x) (item ∷ ys)
        ≡ filter (ties lt x) (z ∷ zs)) head (same x))) in
        rw (head, rest) refl
    | inr apart ↦
        let ahead = first-tied y z ys zs second (same y) apart in
        let behind = first-tied z y zs ys first (sym (same z)) (ties-back z y ∙ apart) in
        let tied : ties lt y z ≡ true = rw (ahead, behind) refl in
        absurd (true≢false (sym tied ∙ apart))
  ]
