-- A walk over the rows from a spot on, which gathers the numbers of a rank.
use Rattle.std.proofs.Common.{rules, ◌≡◌, ℕ, ◌+◌, ◌<◌, ◌≤◌, List, [], ◌++◌, length, get_or, take}
use Rattle.std.proofs.Common.{◌≢◌, ◌∷◌, drop, suc, refl, sym, arith}
use Rattle.std.specs.Prelude.{All}
use Rattle.std.proofs.lemmas.List.{append_assoc, drop_more, drop-drop, drop_at, drop-append-le}
use Rattle.lab_queue.specs.declared.ranking.Ranked.{Ranked}
use Rattle.lab_queue.specs.Ranking.{IsRanked, ids_in_front}
use Rattle.lab_queue.specs.Rows.{IsAhead, flat, start}
use Rattle.lab_queue.proofs.Flats.{flat-parts}
use Rattle.lab_queue.proofs.Ranks.{IsRanked-drop}
use Rattle.lab_queue.proofs.Runs.{ids-append, IsRanked-back, All-back}

module _ (rows : List (List Ranked)) (i rank : ℕ) (its : List Ranked) (below : i < length rows)
    (read : its ≡ get_or rows i its) where
  -- the next row stands in front of what is left
  rest-more : flat (drop i rows) ≡ its ++ flat (drop (i + 1) rows)
  rest-more = rw (drop_more rows i its below, ← read)

  -- behind a row the promise stays
  pub ahead-more : IsAhead rows i rank → IsAhead rows (i + 1) rank
  ahead-more ahead = record {
    ranked = IsRanked-back its (flat (drop (i + 1) rows)) (rw rest-more at ahead.ranked);
    above = All-back (λ x. rank ≤ x.rank) its (flat (drop (i + 1) rows))
        (rw rest-more at ahead.above);
  }

  -- a row's numbers go over to those that were gathered
  pub ids-more : (ids all : List ℕ) → IsAhead rows i rank
      → ids ++ ids_in_front (flat (drop i rows)) rank ≡ all
      → (ids ++ ids_in_front its rank) ++ ids_in_front (flat (drop (i + 1) rows)) rank ≡ all
  ids-more ids all ahead found = search (rules, ids-append, rest-more, append_assoc)

  -- where its first entry has another rank, no number is left
  pub ids-none : 0 < length its → (get_or its 0 (record { rank = rank + 1; id = 0 })).rank ≢ rank
      → ids_in_front (flat (drop i rows)) rank ≡ []
  ids-none some other = rw rest-more (none its some other)
    where
      none : (entries : List Ranked) → 0 < length entries
          → (get_or entries 0 (record { rank = rank + 1; id = 0 })).rank ≢ rank
          → ids_in_front (entries ++ flat (drop (i + 1) rows)) rank ≡ []
      none [] some other = absurd (omega (arith, some))
      none (entry ∷ entries) some other = search (rules, other)

-- the list from a spot on: the rest of its row, and the rows behind
pub rest-parts : (rows : List (List Ranked)) (i place : ℕ) → i < length rows
    → place ≤ length (get_or rows i [])
    → drop (start rows i + place) (flat rows)
    ≡ drop place (get_or rows i []) ++ flat (drop (i + 1) rows)
rest-parts rows i place below within =
    let next : suc i ≡ i + 1 = omega arith in
    let row = get_or rows i [] in
    let back = flat (drop (suc i) rows) in
    rw (flat-parts rows i below, ← drop-drop place (start rows i))
    (rw (drop_at (flat (take i rows)) (row ++ back) (start rows i) refl, next)
    (drop-append-le place row (flat (drop (i + 1) rows)) within))

-- where a walk begins, its promise holds of the rows behind, and the numbers are in two parts
pub record IsBegun (rows : List (List Ranked)) (i place rank : ℕ) : Type 0 where
  pub ahead : IsAhead rows (i + 1) rank
  pub parts : ids_in_front (drop place (get_or rows i [])) rank
      ++ ids_in_front (flat (drop (i + 1) rows)) rank
      ≡ ids_in_front (drop (start rows i + place) (flat rows)) rank

-- it begins in a row of rows that stand in order, where no lower rank is left
pub walk-start : (rows : List (List Ranked)) (i place rank : ℕ) → i < length rows
    → place ≤ length (get_or rows i []) → IsRanked (flat rows)
    → All (λ x. rank ≤ x.rank) (drop (start rows i + place) (flat rows))
    → IsBegun rows i place rank
walk-start rows i place rank below within ranked above =
    let parts = rest-parts rows i place below within in
    let front : List Ranked = drop place (get_or rows i []) in
    let back : List Ranked = flat (drop (i + 1) rows) in
    let order = rw parts at (IsRanked-drop (flat rows) (start rows i + place) ranked) in
    let higher = rw parts at above in
    record {
      ahead = record {
        ranked = IsRanked-back front back order;
        above = All-back (λ x. rank ≤ x.rank) front back higher;
      };
      parts = rw parts (sym (ids-append front back rank order higher));
    }
