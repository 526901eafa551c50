-- Numbers of one rank in a row that is in order.
use Rattle.std.proofs.Common.{rules, ◌≡◌, ◌≢◌, ℕ, ◌<◌, ◌≤◌, List, [], ◌∷◌, ◌++◌, take, suc-add}
use Rattle.std.proofs.Common.{drop, zero, suc, refl, ap, sym, arith, inl, inr, Contains, All, ◌↔◌}
use Rattle.std.specs.List.Sorted.{IsStrictlyIncreasing}
use Rattle.std.proofs.lemmas.Bool.{cases_eq}
use Rattle.std.proofs.lemmas.List.{get_or-append-add, length-append, get_or-drop, length-drop}
use Rattle.std.proofs.lemmas.List.{take-append-drop, get_or-take, length-take}
use Rattle.std.proofs.lemmas.List.Elements.{All-tail, All-contains, Contains-append_cases}
use Rattle.std.proofs.lemmas.List.Elements.{Contains-append_right, Contains-get_or}
use Rattle.lab_queue.specs.declared.ranking.Ranked.{Ranked}
use Rattle.lab_queue.specs.Ranking.{Before, IsPlace, IsRanked, ids_in_front}
use Rattle.lab_queue.proofs.Ranks.{Contains-cons, Contains-cons_cases, IsRanked-tail, first_before}
use Rattle.lab_queue.proofs.Ranks.{entry, same_ranked}

-- where the first element has the rank, its number comes first
ids-more : (x : Ranked) (xs : List Ranked) (rank : ℕ) → x.rank ≡ rank
    → ids_in_front (x ∷ xs) rank ≡ x.id ∷ ids_in_front xs rank
ids-more x xs rank same = search rules

-- where it has another, there are none
ids-stop : (x : Ranked) (xs : List Ranked) (rank : ℕ) → x.rank ≢ rank
    → ids_in_front (x ∷ xs) rank ≡ []
ids-stop x xs rank other = search rules

-- nor are there where all ranks are higher
ids-above : (xs : List Ranked) (rank : ℕ) → All (λ x. rank < x.rank) xs → ids_in_front xs rank ≡ []
ids-above [] rank above = refl
ids-above (x ∷ xs) rank above =
    ids-stop x xs rank (λ same. omega (arith, above 0 x (omega arith), same))

-- what all of two lists are, all of the second are
pub All-back : (P : Ranked → Type 0) (xs ys : List Ranked) → All P (xs ++ ys) → All P ys
All-back P xs ys all k d below = search (rules, get_or-append-add, length-append)

-- the numbers of two lists that stand in order, with no lower rank, are those of both
pub ids-append : (xs ys : List Ranked) (rank : ℕ) → IsRanked (xs ++ ys)
    → All (λ x. rank ≤ x.rank) (xs ++ ys)
    → ids_in_front (xs ++ ys) rank ≡ ids_in_front xs rank ++ ids_in_front ys rank
ids-append [] ys rank ranked above = refl
ids-append (x ∷ xs) ys rank ranked above = elim (cases_eq x.rank rank) [
  | inl same ↦ rw (ids-more x (xs ++ ys) rank same, ids-more x xs rank same)
      (ap (λ ids. x.id ∷ ids) (ids-append xs ys rank (IsRanked-tail x (xs ++ ys) ranked)
      (All-tail (λ y. rank ≤ y.rank) x (xs ++ ys) above)))
  | inr other ↦ rw (ids-stop x (xs ++ ys) rank other, ids-stop x xs rank other)
      (sym (ids-above ys rank (All-back (λ y. rank < y.rank) xs ys (λ k d below.
      let lower = (first_before x (xs ++ ys) ranked k d below).0 in
      omega (arith, other, above 0 x (omega arith))))))
]

-- the back of a list that stands in order does so
pub IsRanked-back : (xs ys : List Ranked) → IsRanked (xs ++ ys) → IsRanked ys
IsRanked-back [] ys ranked = ranked
IsRanked-back (x ∷ xs) ys ranked = IsRanked-back xs ys (IsRanked-tail x (xs ++ ys) ranked)

-- a number in front is one that the row has with the rank
id-in-row : (xs : List Ranked) (rank id : ℕ) → Contains (ids_in_front xs rank) id
    → Contains xs (entry rank id)
id-in-row [] rank id held = absurd (omega (arith, held.1))
id-in-row (x ∷ xs) rank id held = elim (cases_eq x.rank rank) [
  | inl same ↦ Contains-cons x xs (entry rank id) (elim
      (Contains-cons_cases x.id (ids_in_front xs rank) id (rw (ids-more x xs rank same) at held)) [
        | inl is ↦ inl (same_ranked (entry rank id) x (sym same) is)
        | inr later ↦ inr (id-in-row xs rank id later)
      ])
  | inr other ↦ let none = rw (ids-stop x xs rank other) at held in absurd (omega (arith, none.1))
]

-- in order, with no lower rank, it is the other way round, too
row-has-id : (xs : List Ranked) (rank id : ℕ) → IsRanked xs → All (λ x. rank ≤ x.rank) xs
    → Contains xs (entry rank id) → Contains (ids_in_front xs rank) id
row-has-id [] rank id ranked above held = absurd (omega (arith, held.1))
row-has-id (x ∷ xs) rank id ranked above held =
    elim (Contains-cons_cases x xs (entry rank id) held) [
      | inl is ↦ rw (ids-more x xs rank (ap (λ (y : Ranked). y.rank) (sym is)))
          (0, omega arith, ap (λ (y : Ranked). y.id) (sym is))
      | inr later ↦ elim (cases_eq x.rank rank) [
        | inl same ↦ rw (ids-more x xs rank same)
            (Contains-cons x.id (ids_in_front xs rank) id (inr (row-has-id xs rank id
            (IsRanked-tail x xs ranked) (All-tail (λ y. rank ≤ y.rank) x xs above) later)))
        | inr other ↦
            let first = All-contains (Before x) xs _ (first_before x xs ranked) later in
            absurd (omega (arith, other, above 0 x (omega arith), first.0))
      ]
    ]

-- numbers that rise, behind one that is less than each of them, rise with it
rises-behind : (x : ℕ) (xs : List ℕ) → ((y : ℕ) → Contains xs y → x < y) → IsStrictlyIncreasing xs
    → IsStrictlyIncreasing (x ∷ xs)
rises-behind x xs first rest zero below = first _ (Contains-get_or xs 0 0 (omega arith))
rises-behind x xs first rest (suc k) below = rw (suc-add k 1) (rest k (omega arith))

-- the numbers in front rise
pub ids-rise : (xs : List Ranked) (rank : ℕ) → IsRanked xs
    → IsStrictlyIncreasing (ids_in_front xs rank)
ids-rise [] rank ranked = λ k below. absurd (omega arith)
ids-rise (x ∷ xs) rank ranked = elim (cases_eq x.rank rank) [
  | inl same ↦ rw (ids-more x xs rank same) (rises-behind x.id (ids_in_front xs rank) (λ id held.
      (All-contains (Before x) xs (entry rank id) (first_before x xs ranked)
      (id-in-row xs rank id held)).1 same) (ids-rise xs rank (IsRanked-tail x xs ranked)))
  | inr other ↦ rw (ids-stop x xs rank other) (λ k below. absurd (omega arith))
]

-- what is left behind a place for the rank's first number has no lower rank
pub above_place : (xs : List Ranked) (rank place : ℕ) → IsPlace xs (entry rank 0) place
    → All (λ x. rank ≤ x.rank) (drop place xs)
above_place xs rank place at k d below = search (rules, get_or-drop, length-drop)

-- behind the place for the rank's first number stand all numbers with the rank
pub ids_behind : (xs : List Ranked) (rank id place : ℕ) → IsRanked (drop place xs)
    → IsPlace xs (entry rank 0) place
    → Contains (ids_in_front (drop place xs) rank) id ↔ Contains xs (entry rank id)
ids_behind xs rank id place ranked at =
    let x : Ranked = entry rank id in (
      λ held. rw take-append-drop at (Contains-append_right (take place xs) (drop place xs) x
          (id-in-row (drop place xs) rank id held)),
      λ held. row-has-id (drop place xs) rank id ranked (above_place xs rank place at)
          (elim (Contains-append_cases (take place xs) (drop place xs) x
          (rw (take-append-drop place xs) held)) [
            | inl front ↦
                let inside : front.0 < place = omega (arith, front.1, length-take place xs) in
                let is = rw (get_or-take place xs front.0 x inside) at front.2 in
                absurd (omega (arith, (rw is at (at.front front.0 x inside)).1 refl))
            | inr back ↦ back
          ]),
    )
