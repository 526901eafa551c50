-- Members of lists, by recursion, and of lists that are made of others.
use Rattle.std.proofs.Common.{rules, ◌≡◌, ℕ, zero, suc, ◌<◌, ◌≤◌, ◌⊎◌, inl, inr, true, eqb, List}
use Rattle.std.proofs.Common.{[], ◌∷◌, ◌++◌, Option, Some, Contains, filter_map, flat_map, get_or}
use Rattle.std.proofs.Common.{map, length, slice_get, refl, sym, ap, arith, true≢false}
use Rattle.std.specs.List.{AllByRecursion, cons_option, list_any}
use Rattle.std.proofs.lemmas.Bool.{cases_lt, eqb-true, or_cases}
use Rattle.lab_model.specs.Cost.{greatest}
use Rattle.lab_model.proofs.ListLemmas.{None-not-Some, Some-holds}
use Rattle.lab_sector.specs.declared.request.Kind.{Kind}
use Rattle.lab_model.specs.Below.{kinds}

-- x is an item of the list
abbrev pub In : {X : Type 0} → X → List X → Type 0
In x [] = ⊥
In x (y ∷ ys) = (y ≡ x) ⊎ In x ys

module _ {X : Type 0} (x : X) where
  -- in the words of contracts
  pub Contains-In : (xs : List X) → In x xs → Contains xs x
  Contains-In [] at = absurd at
  Contains-In (y ∷ ys) (inl same) = (0, omega arith, same)
  Contains-In (y ∷ ys) (inr at) = let k = Contains-In ys at in (suc k.0, omega (arith, k.1), k.2)

  -- what stands at a place is an item
  pub In-slice_get : (xs : List X) (i : ℕ) → slice_get xs i ≡ Some x → In x xs
  In-slice_get [] i at = absurd (None-not-Some at)
  In-slice_get (y ∷ ys) zero at = inl (Some-holds at)
  In-slice_get (y ∷ ys) (suc i) at = inr (In-slice_get ys i at)

  -- an item of the first list
  pub In-append_left : (xs ys : List X) → In x xs → In x (xs ++ ys)
  In-append_left [] ys at = absurd at
  In-append_left (y ∷ xs) ys (inl same) = inl same
  In-append_left (y ∷ xs) ys (inr later) = inr (In-append_left xs ys later)

  -- and of the second
  pub In-append_right : (xs ys : List X) → In x ys → In x (xs ++ ys)
  In-append_right [] ys at = at
  In-append_right (y ∷ xs) ys at = inr (In-append_right xs ys at)

-- of an item's own list
pub In-flat_map : {X Y : Type 0} (f : X → List Y) (x : X) (y : Y) (xs : List X) → In x xs → In y
    (f x) → In y (flat_map f xs)
In-flat_map f x y [] at own = absurd at
In-flat_map f x y (z ∷ xs) (inl same) own = search (rules, In-append_left)
In-flat_map f x y (z ∷ xs) (inr later) own = search (rules, In-append_right, In-flat_map f x y xs)

-- of what f makes of an item
pub In-map : {X Y : Type 0} (f : X → Y) (x : X) (xs : List X) → In x xs → In (f x) (map f xs)
In-map f x [] at = absurd at
In-map f x (z ∷ xs) (inl same) = inl (ap f same)
In-map f x (z ∷ xs) (inr later) = inr (In-map f x xs later)

-- of what h gives of an item
pub In-filter_map : {X Y : Type 0} (h : X → Option Y) (x : X) (y : Y) (xs : List X) → In x xs
    → h x ≡ Some y → In y (filter_map h xs)
In-filter_map h x y [] at gives = search rules
In-filter_map h x y (z ∷ xs) (inl same) gives = search rules
In-filter_map h x y (z ∷ xs) (inr later) gives = search (rules, In-filter_map h x y xs later gives)

-- what holds of each member
pub All-In : {X : Type 0} (P : X → Type 0) (xs : List X) → ((x : X) → In x xs → P x)
    → AllByRecursion P xs
All-In P [] each = tt
All-In P (x ∷ xs) each = (each x (inl refl), All-In P xs (λ y at. each y (inr at)))

-- a number that a test finds
pub In-list_any : (q : ℕ) (xs : List ℕ) → list_any (eqb q) xs ≡ true → In q xs
In-list_any q [] found = absurd (true≢false (sym found))
In-list_any q (x ∷ xs) found = elim (or_cases (eqb q x) (list_any (eqb q) xs) found) as
    (λ w. In q (x ∷ xs)) [
      | inl here ↦ inl (sym (eqb-true q x here))
      | inr later ↦ inr (In-list_any q xs later)
    ]

module _ {X : Type 0} (f : X → ℕ) where
  -- the greatest is at least what f says of a member, and is what it says of one
  pub greatest-In : (x : X) (xs : List X) → In x xs → f x ≤ greatest (map f xs)
  greatest-In x [] at = absurd at
  greatest-In x (y ∷ xs) (inl same) = omega (arith, ap f same)
  greatest-In x (y ∷ xs) (inr later) = omega (arith, greatest-In x xs later)

  -- a number up to the greatest is up to what f says of an item
  pub greatest-attained : (xs : List X) (n : ℕ) → 0 < n → n ≤ greatest (map f xs)
      → (x : X) × In x xs × (n ≤ f x)
  greatest-attained [] n some up_to = absurd (omega (arith, some, up_to))
  greatest-attained (x ∷ xs) n some up_to =
      elim (cases_lt (f x) n) as (λ w. (y : X) × In y (x ∷ xs) × (n ≤ f y)) [
        | inl less ↦
            let there = greatest-attained xs n some (omega (arith, less, up_to)) in
            (there.0, inr there.1, there.2)
        | inr enough ↦ (x, inl refl, enough)
      ]

  -- a bound of all is one of the greatest
  pub greatest-bound : (n : ℕ) → ((x : X) → f x ≤ n) → (xs : List X) → greatest (map f xs) ≤ n
  greatest-bound n bound [] = omega arith
  greatest-bound n bound (x ∷ xs) = omega (arith, bound x, greatest-bound n bound xs)

module _ {X : Type 0} (x : X) where
  -- an item at a place, in the words of contracts
  In-place : (xs : List X) (k : ℕ) → k < length xs → get_or xs k x ≡ x → In x xs
  In-place [] k within same = absurd (omega (arith, within))
  In-place (y ∷ xs) zero within same = inl same
  In-place (y ∷ xs) (suc k) within same = inr (In-place xs k (omega (arith, within)) same)

  -- and back: from the words of contracts, and from lists that are made of others
  pub In-Contains : (xs : List X) → Contains xs x → In x xs
  In-Contains xs has = In-place xs has.0 has.1 has.2

  -- an item stands at a place
  pub member-place : (xs : List X) → In x xs → (i : ℕ) × (slice_get xs i ≡ Some x)
  member-place [] at = absurd at
  member-place (y ∷ xs) (inl same) = (0, ap (λ z. Some z) same)
  member-place (y ∷ xs) (inr later) = let place = member-place xs later in (suc place.0, place.1)

  -- an item of joined lists is of one of them
  pub append-member : (xs ys : List X) → In x (xs ++ ys) → In x xs ⊎ In x ys
  append-member [] ys at = search rules
  append-member (z ∷ xs) ys (inl same) = search rules
  append-member (z ∷ xs) ys (inr later) = search (rules, append-member xs ys later)

module _ {X Y : Type 0} where
  -- an item of lists end to end is of one item's list
  pub flat_map-member : (f : X → List Y) (y : Y) (xs : List X) → In y (flat_map f xs)
      → (x : X) × In x xs × In y (f x)
  flat_map-member f y [] at = absurd at
  flat_map-member f y (z ∷ xs) at = elim (append-member y (f z) (flat_map f xs) at)
      as (λ w. (x : X) × In x (z ∷ xs) × In y (f x)) [
        | inl own ↦ (z, inl refl, own)
        | inr later ↦ let rest = flat_map-member f y xs later in (rest.0, inr rest.1, rest.2)
      ]

  -- an item of a mapped list is made of an item
  pub map-member : (f : X → Y) (y : Y) (xs : List X) → In y (map f xs)
      → (x : X) × In x xs × (f x ≡ y)
  map-member f y [] at = absurd at
  map-member f y (z ∷ xs) (inl same) = search rules
  map-member f y (z ∷ xs) (inr later) = search (rules, map-member f y xs later)

-- the option's value, or an item behind it
cons_option-member : {Y : Type 0} (y : Y) (o : Option Y) (ys : List Y) → In y (cons_option o ys) →
    (o ≡ Some y) ⊎ In y ys
cons_option-member y o ys at = search rules

-- an item of what h gives is given of an item
pub filter_map-member : {X Y : Type 0} (h : X → Option Y) (y : Y) (xs : List X) → In y
    (filter_map h xs)
    → (x : X) × In x xs × (h x ≡ Some y)
filter_map-member h y [] at = absurd at
filter_map-member {X} h y (z ∷ xs) at = elim (cons_option-member y (h z) (filter_map h xs) at)
    as (λ w. (x : X) × In x (z ∷ xs) × (h x ≡ Some y)) [
      | inl gives ↦ (z, inl refl, gives)
      | inr later ↦ let rest = filter_map-member h y xs later in (rest.0, inr rest.1, rest.2)
    ]

-- all kinds are among the kinds
pub In-kinds : (kind : Kind) → In kind kinds
In-kinds kind = search rules
