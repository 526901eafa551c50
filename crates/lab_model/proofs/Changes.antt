-- Lists in which an item was changed, by its place.
use Rattle.std.proofs.Common.{rules, ◌≡◌, ℕ, zero, suc, ◌+◌, ◌≤◌, Bool, true, List, [], ◌∷◌, Some}
use Rattle.std.proofs.Common.{length, map, slice_get, zip, ◌⊎◌, refl, ap, subst, arith}
use Rattle.std.specs.List.{enumerate_from, list_all}
use Rattle.std.proofs.lemmas.Bool.{and_parts}
use Rattle.std.proofs.Math.Numerals.{one-add}
use Rattle.std.specs.Prelude.{get_or, slice_set}
use Rattle.lab_model.specs.Lists.{change, change_numbered, numbered}

-- a list stays as long
pub length-change : {X : Type 0} (xs : List X) (i : ℕ) (f : X → X)
    → length (change xs i f) ≡ length xs
length-change (x ∷ xs) (suc i) f = ap suc (length-change xs i f)
length-change xs i f = search rules

-- a change past the end does nothing
pub change-past : {X : Type 0} (xs : List X) (i : ℕ) (f : X → X) → length xs ≤ i
    → xs ≡ change xs i f
change-past (x ∷ xs) (suc i) f past = ap (λ zs. x ∷ zs) (change-past xs i f (omega arith))
change-past xs i f past = search rules

-- a change of the item at a place is a write there
pub change-set : {X : Type 0} (xs : List X) (i : ℕ) (f : X → X) (x : X) → x ≡ get_or xs i x
    → change xs i f ≡ slice_set xs i (f x)
change-set (y ∷ ys) (suc i) f x is = ap (λ zs. y ∷ zs) (change-set ys i f x is)
change-set xs i f x is = search rules

-- the same by number
pub length-change_numbered : {X : Type 0} (xs : List X) (f : X → X) (at : ℕ)
    → length (change_numbered xs at f) ≡ length xs
length-change_numbered xs f at = search (rules, length-change)

-- an item of a list in which one was changed: that one, or one as before
pub record ChangedOne {X : Type 0} (xs : List X) (at : ℕ) (f : X → X) (number : ℕ)
    (y : X) : Type 0 where
  pub same : number ≡ at
  pub old : X
  pub stood : numbered xs at ≡ Some old
  pub is : y ≡ f old

-- the one that was changed, or another as before
abbrev pub ChangedOr : {X : Type 0} → List X → ℕ → (X → X) → ℕ → X → Type 0
ChangedOr xs at f number y =
    ChangedOne xs at f number y ⊎ ((number ≡ at → ⊥) × (numbered xs number ≡ Some y))

-- the key to one item changed
change-cases : {X : Type 0} (xs : List X) (f : X → X) (place j : ℕ) (y : X)
    → slice_get (change xs place f) j ≡ Some y → ChangedOr xs (suc place) f (suc j) y
change-cases (x ∷ xs) f (suc place) (suc j) y e = search (rules, change-cases xs f place j y e)
change-cases xs f place j y e = search rules

-- the same by number
pub change_numbered-cases : {X : Type 0} (xs : List X) (f : X → X) (at number : ℕ) (y : X)
    → numbered (change_numbered xs at f) number ≡ Some y → ChangedOr xs at f number y
change_numbered-cases xs f at number y e = search (rules, change-cases)

-- an item of a list in which all were changed
pub map-cases : {X Y : Type 0} (f : X → Y) (xs : List X) (number : ℕ) (y : Y)
    → numbered (map f xs) number ≡ Some y
    → (x : X) × (numbered xs number ≡ Some x) × (y ≡ f x)
map-cases f xs zero y e = cc
map-cases f [] (suc place) y e = cc
map-cases f (x ∷ xs) (suc zero) y e = (x, refl, cc)
map-cases f (x ∷ xs) (suc (suc place)) y e = map-cases f xs (suc place) y e

-- what holds of all pairs of items with their number holds of each
zip-test : {X Y : Type 0} (test : ℕ × (X × Y) → Bool) (start : ℕ) (xs : List X) (ys : List Y)
    → list_all test (enumerate_from start (zip xs ys)) ≡ true → (place : ℕ) (x : X) (y : Y)
    → slice_get xs place ≡ Some x → slice_get ys place ≡ Some y
    → test (start + place, (x, y)) ≡ true
zip-test test start [] ys all place x y e f = cc
zip-test test start (a ∷ xs) [] all place x y e f = cc
zip-test test start (a ∷ xs) (b ∷ ys) all zero x y e f =
    let here = and_parts (test (start, (a, b)))
    (list_all test (enumerate_from (start + 1) (zip xs ys))) all in
    let x_is : a ≡ x = cc in
    let y_is : b ≡ y = cc in
    let number : start + 0 ≡ start = omega arith in
    rw number (subst (λ y. test (start, (x, y)) ≡ true) y_is
    (subst (λ x. test (start, (x, b)) ≡ true) x_is here.0))
zip-test test start (a ∷ xs) (b ∷ ys) all (suc place) x y e f =
    let here = and_parts (test (start, (a, b)))
    (list_all test (enumerate_from (start + 1) (zip xs ys))) all in
    let number : start + 1 + place ≡ start + suc place = omega arith in
    subst (λ n. test (n, (x, y)) ≡ true) number
    (zip-test test (start + 1) xs ys here.1 place x y e f)

-- the same by number
pub numbered-test : {X Y : Type 0} (test : ℕ × (X × Y) → Bool) (xs : List X) (ys : List Y)
    → list_all test (enumerate_from 1 (zip xs ys)) ≡ true → (number : ℕ) (x : X) (y : Y)
    → numbered xs number ≡ Some x → numbered ys number ≡ Some y → test (number, (x, y)) ≡ true
numbered-test test xs ys all number x y e f = search (rules, one-add, zip-test)

-- a map takes a change of the item at a place to a change of its image
pub map-change : {X Y : Type 0} (f : X → Y) (g : X → X) (h : Y → Y) (xs : List X) (i : ℕ)
    → ((x : X) → slice_get xs i ≡ Some x → f (g x) ≡ h (f x))
    → map f (change xs i g) ≡ change (map f xs) i h
map-change f g h [] i same = refl
map-change f g h (x ∷ xs) zero same = ap (λ y. y ∷ map f xs) (same x refl)
map-change f g h (x ∷ xs) (suc i) same = ap (λ ys. f x ∷ ys) (map-change f g h xs i same)

-- a change that leaves the image of the item at its place alone leaves all images alone
pub map-change-alone : {X Y : Type 0} (f : X → Y) (g : X → X) (xs : List X) (i : ℕ)
    → ((x : X) → slice_get xs i ≡ Some x → f (g x) ≡ f x) → map f (change xs i g) ≡ map f xs
map-change-alone f g (x ∷ xs) (suc i) same = ap (λ ys. f x ∷ ys) (map-change-alone f g xs i same)
map-change-alone f g xs i same = search rules

-- a map that leaves each item's image alone leaves all images alone
pub map-map-alone : {X Y : Type 0} (f : X → Y) (g : X → X) (xs : List X)
    → ((x : X) → f (g x) ≡ f x) → map f (map g xs) ≡ map f xs
map-map-alone f g [] same = refl
map-map-alone f g (x ∷ xs) same = rw (same x) (ap (λ ys. f x ∷ ys) (map-map-alone f g xs same))
