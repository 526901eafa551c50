-- The search over rows that stand in order.
use Rattle.std.proofs.Common.{rules, ◌≡◌, ℕ, ◌+◌, ◌-◌, ◌<◌, ◌≤◌, List, [], length, get_or, zero}
use Rattle.std.proofs.Common.{suc, ap, refl, sym, ◌∙◌, subst, arith, ◌∷◌}
use Rattle.std.specs.Prelude.{All, Contains, true, false, Option, None, Some, IfNone, IfSome}
use Rattle.std.specs.Prelude.{slice_get}
use Rattle.std.specs.List.Sorted.{IsPartitionedBy, IsPartitionPoint}
use Rattle.std.proofs.lemmas.Bool.Decides.{nat_tests}
use Rattle.std.proofs.lemmas.List.{get_or_default, get_or_read}
use Rattle.lab_queue.specs.declared.ranking.Ranked.{Ranked}
use Rattle.lab_queue.specs.Ranking.{Before, NotAfter, IsPlace, IsRanked, IsFirstFrom}
use Rattle.lab_queue.specs.Ranking.{is_before, ends_before}
use Rattle.lab_queue.specs.Rows.{flat, start, IsRowFor}
use Rattle.lab_queue.proofs.Flats.{start-next, start-within, start-rises, entry-stands, last-stands}
use Rattle.lab_queue.proofs.Ranks.{entry, first_before, partitioned, Before-from_test}

-- before the first row nothing stands
some-before : (rows : List (List Ranked)) (n k : ℕ) → k < start rows n → 0 < n
some-before rows n k below = search rules

module _ (rows : List (List Ranked)) (bound : Ranked) (filled : All (λ r. 0 < length r) rows) where
  -- a row ends before the bound where its last entry in the whole list does
  ends-stands : (i : ℕ) (d : List Ranked) → i < length rows
      → ends_before bound (get_or rows i d)
      ≡ is_before bound (get_or (flat rows) (start rows (i + 1) - 1) bound)
  ends-stands i d below = search (rules, get_or_default rows i d [], last-stands, filled i [])

  -- the last place of a row is within the whole list
  last-within : (i : ℕ) → i < length rows → start rows i < start rows (i + 1)
  last-within i below = omega (arith, start-next rows i below, filled i [] below)

  -- the place in the bound's row is one of an entry
  pub place-within : (n p : ℕ) → IsRowFor rows bound n → n < length rows
      → IsPlace (get_or rows n []) bound p → p < length (get_or rows n [])
  place-within n p for_row row place =
      let len : ℕ = length (get_or rows n []) in
      let last = last-stands rows n bound row (filled n [] row) in
      let next = start-next rows n row in
      let some = filled n [] row in
      grind (
        arith,
        place,
        last,
        place.front (len - 1) bound,
        start-within rows (n + 1),
        for_row.rest (start rows (n + 1) - 1) bound row,
      )

  module _ (ranked : IsRanked (flat rows)) where
    -- the rows that end before the bound come first
    pub rows-partitioned : IsPartitionedBy (ends_before bound) rows
    rows-partitioned i j d upto below passes = ends-stands i d (omega arith)
        ∙ partitioned bound (flat rows) ranked (start rows (i + 1) - 1) (start rows (j + 1) - 1)
        bound (omega (arith, start-rises rows (i + 1) (j + 1) (omega arith)))
        (omega (arith, start-within rows (j + 1), last-within j below))
        (sym (ends-stands j d below) ∙ passes)

    -- where the rows stop ending before the bound is the bound's row
    pub row-found : (n : ℕ) → n ≤ length rows
        → IsPartitionPoint (λ r. ends_before bound r ≡ true) (λ r. ends_before bound r ≡ false)
        rows n → IsRowFor rows bound n
    row-found n within cut = record {
      within = within;
      front = λ k d below.
          let before : n - 1 + 1 ≡ n = omega (arith, some-before rows n k below) in
          let inside : start rows n - 1 < length (flat rows) = omega (arith, start-within rows n) in
          let passes = rw before at (sym (ends-stands (n - 1) [] (omega arith))
          ∙ cut.0 (n - 1) [] (omega arith) (omega arith)) in
          Before-from_test bound _ (partitioned bound (flat rows) ranked k (start rows n - 1) d
          (omega arith) inside
          (ap (is_before bound) (get_or_default (flat rows) _ d bound inside) ∙ passes));
      rest = λ k d row above below.
          let ends = ends-stands n [] row in
          let fails = cut.1 n [] (omega arith) row in
          let pass = partitioned bound (flat rows) ranked (start rows (n + 1) - 1) k bound in
          let read = get_or_default (flat rows) k bound d below in
          grind (arith, nat_tests, last-within n row);
    }

    -- where the last row ends before the bound, all do
    pub row-behind : (last : List Ranked) → length rows - 1 < length rows
        → last ≡ get_or rows (length rows - 1) last → ends_before bound last ≡ true
        → IsRowFor rows bound (length rows)
    row-behind last some is ends = row-found (length rows) (omega arith) (
      (λ i d below within. rows-partitioned i (length rows - 1) d (omega arith) some
          (ap (ends_before bound) (sym (get_or_read rows (length rows - 1) last some is d)) ∙ ends)),
      (λ i d above below. absurd (omega arith)),
    )

-- an entry in a row's span of the whole list is one of the row
in-row : (rows : List (List Ranked)) (n k : ℕ) (d : Ranked) → n < length rows
    → start rows n ≤ k → k < start rows (n + 1)
    → get_or (flat rows) k d ≡ get_or (get_or rows n []) (k - start rows n) d
in-row rows n k d row above below = search (rules, entry-stands, start-next)

-- the place in the bound's row is its place in the whole list
pub place-found : (rows : List (List Ranked)) (bound : Ranked) (n p : ℕ)
    → IsRowFor rows bound n → n < length rows → IsPlace (get_or rows n []) bound p
    → IsPlace (flat rows) bound (start rows n + p)
place-found rows bound n p for_row row place = record {
  within = omega (arith, start-next rows n row, start-within rows (n + 1), place.within);
  front = λ k d below. grind (
    arith,
    start-next rows n row,
    place.within,
    for_row.front k d,
    in-row rows n k d row,
    place.front (k - start rows n) d,
  );
  rest = λ k d above below. grind (
    arith,
    start-next rows n row,
    for_row.rest k d row,
    in-row rows n k d row,
    place.rest (k - start rows n) d,
  );
}

-- what stands at the bound's place is the first that doesn't stand before it
pub first-found : (xs : List Ranked) (bound : Ranked) (p : ℕ) (x : Ranked) → IsRanked xs
    → IsPlace xs bound p → p < length xs → x ≡ get_or xs p x → IsFirstFrom xs bound x
first-found xs bound p x ranked place below is = record {
  contains = (p, below, sym is);
  from = subst (NotAfter bound) (sym is) (place.rest p x (omega arith) below);
  least = λ y held from.
      let same = get_or_default xs p x y below in
      grind (arith, ranked p held.0 y, place.front held.0 y);
}

-- the rows' first entry is that of the first of them, none of which is empty
pub first-stands : (rows : List (List Ranked)) (row : List Ranked)
    → All (λ r. 0 < length r) rows → slice_get rows 0 ≡ Some row
    → slice_get (flat rows) 0 ≡ slice_get row 0
first-stands [] row filled is = cc
first-stands ([] ∷ rows) row filled is = absurd (omega (arith, filled 0 [] (omega arith)))
first-stands ((x ∷ xs) ∷ rows) row filled is = cc

-- so it is of a row that is read as the first
pub first-read : (rows : List (List Ranked)) (row : List Ranked) → All (λ r. 0 < length r) rows
    → 0 < length rows → row ≡ get_or rows 0 row → slice_get (flat rows) 0 ≡ slice_get row 0
first-read [] row filled some is = absurd (omega (arith, some))
first-read (first ∷ rows) row filled some is = rw is (first-stands (first ∷ rows) first filled refl)

-- in order the first stands behind none, at whatever place
behind-first : (first : Ranked) (xs : List Ranked) (x : Ranked) → first ≡ x
    → IsRanked (first ∷ xs) → (k : ℕ) (d : Ranked) → k < length (first ∷ xs)
    → NotAfter x (get_or (first ∷ xs) k d)
behind-first first xs x it ranked zero d below = grind arith
behind-first first xs x it ranked (suc k) d below = grind (arith, first_before first xs ranked k d)

-- in order it is one of them and stands behind none, and where there is none, there are none at all
pub first-of-all : (r : Option Ranked) (xs : List Ranked) → IsRanked xs → r ≡ slice_get xs 0
    → IfSome r (Contains xs) × IfSome r (λ x. (y : Ranked) → Contains xs y → NotAfter x y)
    × IfNone r ((y : Ranked) → ¬ Contains xs y)
first-of-all None [] ranked is = (tt, tt, λ y held. absurd (omega (arith, held.1)))
first-of-all None (first ∷ xs) ranked is = absurd (cc)
first-of-all (Some x) [] ranked is = absurd (cc)
first-of-all (Some x) (first ∷ xs) ranked is = (
  (0, omega arith, cc),
  λ y held. rw held.2 at (behind-first first xs x (cc) ranked held.0 y held.1),
  tt,
)

-- its place is the first
pub first-place : (xs : List Ranked) (x : Ranked) → IsRanked xs → slice_get xs 0 ≡ Some x
    → IsPlace xs x 0
first-place [] x ranked is = cc
first-place (first ∷ xs) x ranked is = search (rules, behind-first)

module _ (xs : List Ranked) (rank above : ℕ) (next : above ≡ rank + 1) where
  -- the first from the next rank on is the first above the rank
  pub first-of-next : (r : Option Ranked) → IfSome r (IsFirstFrom xs (entry above 0))
      → IfSome r (λ x. (y : Ranked) → Contains xs y → rank < y.rank → x.rank ≤ y.rank)
  first-of-next None first = first
  first-of-next (Some x) first = λ y held higher. grind (arith, first.least y held)

  -- and none is above where there is none from there
  pub none-of-next : (r : Option Ranked)
      → IfNone r ((y : Ranked) → Contains xs y → Before y (entry above 0))
      → IfNone r ((y : Ranked) → Contains xs y → y.rank ≤ rank)
  none-of-next (Some x) none = none
  none-of-next None none = λ y held. grind (arith, none y held)
