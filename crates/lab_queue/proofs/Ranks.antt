-- Rows in the order of rank and number. Names: the fact, then the edit that keeps it.
use Rattle.std.proofs.Common.{rules, ◌≡◌, ◌≢◌, ℕ, ◌<◌, ◌≤◌, ◌⊎◌, List, [], ◌∷◌, length, get_or}
use Rattle.std.proofs.Common.{drop, suc, zero, sym, ◌∙◌, subst, arith, inl, inr}
use Rattle.std.specs.Prelude.{Contains, All, insert, remove, ◌↔◌, true}
use Rattle.std.specs.List.Sorted.{IsPermutation, IsPartitionedBy}
use Rattle.std.proofs.lemmas.Bool.Decides.{nat_tests}
use Rattle.std.proofs.lemmas.List.{get_or_default, get_or-drop, length-drop}
use Rattle.std.proofs.lemmas.List.Elements.{All-cons}
use Rattle.std.proofs.lemmas.List.Kept.{AllPairs-cons}
use Rattle.std.proofs.lemmas.List.Sorted.{IsPermutation-insert, IsPermutation-remove}
use Rattle.std.proofs.lemmas.List.Sorted.{All-permutation, IsPermutation-sym, Contains-permutation}
use Rattle.lab_queue.specs.declared.ranking.Ranked.{Ranked}
use Rattle.lab_queue.specs.Ranking.{Before, NotAfter, IsPlace, IsRanked, is_before}

-- the number with the rank
abbrev pub entry : ℕ → ℕ → Ranked
entry rank id = record { rank = rank; id = id }

-- the same rank and number, so the same
pub same_ranked : (a b : Ranked) → a.rank ≡ b.rank → a.id ≡ b.id → a ≡ b
same_ranked a b rank id = search rules

-- what isn't after another and isn't it stands before it
pub Before-from_NotAfter : (a b : Ranked) → NotAfter a b → a ≢ b → Before a b
Before-from_NotAfter a b not_after other = search rules

-- an element of a list with one more in front is that one or of the list
pub Contains-cons_cases : {X : Type 0} (x : X) (xs : List X) (y : X) → Contains (x ∷ xs) y
    → (y ≡ x) ⊎ Contains xs y
Contains-cons_cases x xs y holds = search rules

-- and the other way round
pub Contains-cons : {X : Type 0} (x : X) (xs : List X) (y : X) → (y ≡ x) ⊎ Contains xs y
    → Contains (x ∷ xs) y
Contains-cons x xs y (inl same) = (0, omega arith, sym same)
Contains-cons x xs y (inr held) = (suc held.0, omega (arith, held.1), held.2)

-- the elements behind the first stand in order
pub IsRanked-tail : (x : Ranked) (xs : List Ranked) → IsRanked (x ∷ xs) → IsRanked xs
IsRanked-tail x xs ranked i j d before below = ranked (suc i) (suc j) d (omega arith) (omega arith)

-- the first stands before all that follow
pub first_before : (x : Ranked) (xs : List Ranked) → IsRanked (x ∷ xs) → All (Before x) xs
first_before x xs ranked k d below = ranked 0 (suc k) d (omega arith) (omega arith)

-- one that goes to its place keeps the order
pub IsRanked-insert : (xs : List Ranked) (place : ℕ) (x : Ranked) → IsRanked xs → place ≤ length xs
    → ((k : ℕ) (d : Ranked) → k < place → Before (get_or xs k d) x)
    → ((k : ℕ) (d : Ranked) → place ≤ k → k < length xs → Before x (get_or xs k d))
    → IsRanked (insert xs place x)
IsRanked-insert xs zero x ranked within front back =
    AllPairs-cons Before x xs (λ k d below. back k d (omega arith) below) ranked
IsRanked-insert [] (suc place) x ranked within front back = absurd (omega arith)
IsRanked-insert (y ∷ ys) (suc place) x ranked within front back =
    AllPairs-cons Before y (insert ys place x)
    (All-permutation (Before y) (x ∷ ys) (insert ys place x) (IsPermutation-insert ys place x)
    (All-cons (Before y) x ys (front 0 y (omega arith)) (first_before y ys ranked)))
    (IsRanked-insert ys place x (IsRanked-tail y ys ranked) (omega arith)
    (λ k d below. front (suc k) d (omega arith))
    (λ k d above below. back (suc k) d (omega arith) (omega arith)))

-- a number that wasn't there goes to its place
pub IsRanked-new : (xs : List Ranked) (place : ℕ) (x : Ranked) → IsRanked xs → IsPlace xs x place
    → ¬ Contains xs x
    → IsRanked (insert xs place x)
IsRanked-new xs place x ranked at absent = IsRanked-insert xs place x ranked at.within at.front
    (λ k d above below. Before-from_NotAfter x (get_or xs k d) (at.rest k d above below)
    (λ same. absent (k, below, get_or_default xs k x d below ∙ sym same)))

-- the row with one more has that one and what it had
pub Contains-insert : (xs : List Ranked) (place : ℕ) (x y : Ranked) → Contains
    (insert xs place x) y ↔ ((y ≡ x) ⊎ Contains xs y)
Contains-insert xs place x y = (
  λ held. Contains-cons_cases x xs y (Contains-permutation (insert xs place x) (x ∷ xs) y
      (IsPermutation-sym (x ∷ xs) (insert xs place x) (IsPermutation-insert xs place x)) held),
  λ had. Contains-permutation (x ∷ xs) (insert xs place x) y (IsPermutation-insert xs place x)
      (Contains-cons x xs y had),
)

-- no element stands twice in order
pub no_twice : (xs : List Ranked) (place : ℕ) (x : Ranked) → IsRanked xs → place < length xs
    → get_or xs place x ≡ x
    → ¬ Contains (remove xs place) x
no_twice [] place x ranked below is held = absurd (omega arith)
no_twice (y ∷ ys) zero x ranked below is held =
    grind (arith, first_before y ys ranked held.0 x held.1)
no_twice (y ∷ ys) (suc place) x ranked below is held =
    elim (Contains-cons_cases y (remove ys place) x held) as (λ c. ⊥) [
      | inl same ↦ grind (arith, first_before y ys ranked place x (omega arith))
      | inr later ↦ no_twice ys place x (IsRanked-tail y ys ranked) (omega arith) is later
    ]

-- the row with one less has what it had but that one
pub Contains-remove : (xs : List Ranked) (place : ℕ) (x y : Ranked) → IsRanked xs
    → place < length xs → get_or xs place x ≡ x
    → Contains (remove xs place) y ↔ (Contains xs y × (y ≢ x))
Contains-remove xs place x y ranked below is =
    let moved : IsPermutation xs (x ∷ remove xs place) = IsPermutation-remove xs place x below
    (sym is) in (
      λ held. (
        Contains-permutation (x ∷ remove xs place) xs y
            (IsPermutation-sym xs (x ∷ remove xs place) moved)
            (Contains-cons x (remove xs place) y (inr held)),
        λ same. no_twice xs place x ranked below is (subst (Contains (remove xs place)) same held),
      ),
      λ had. elim (Contains-cons_cases x (remove xs place) y
          (Contains-permutation xs (x ∷ remove xs place) y moved had.0))
          as (λ c. Contains (remove xs place) y)
          [ inl same ↦ absurd (had.1 same) | inr held ↦ held ],
    )

-- an element stands at its place
pub found : (xs : List Ranked) (place : ℕ) (x : Ranked) → IsRanked xs → IsPlace xs x place
    → Contains xs x → (place < length xs) × (get_or xs place x ≡ x)
found xs place x ranked at held = search rules

-- where it passes, the element stands before the bound
pub Before-from_test : (bound x : Ranked) → is_before bound x ≡ true → Before x bound
Before-from_test bound x passes = (grind (arith, nat_tests), grind (arith, nat_tests))

-- in an ordered row those that pass the test come first
pub partitioned : (bound : Ranked) (xs : List Ranked) → IsRanked xs → IsPartitionedBy
    (is_before bound) xs
partitioned bound xs ranked i j d upto below passes = grind (arith, nat_tests, ranked i j d)

-- the elements behind a place stand in order
pub IsRanked-drop : (xs : List Ranked) (n : ℕ) → IsRanked xs → IsRanked (drop n xs)
IsRanked-drop xs n ranked i j d before below = search (rules, get_or-drop, length-drop)
