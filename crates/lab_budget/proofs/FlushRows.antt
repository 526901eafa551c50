-- Rows of what a flush takes on each device, one for each depth.
use Rattle.lab_model.proofs.Common.{rules, ◌≡◌, ℕ, zero, suc, ◌+◌, ◌<◌, List, [], ◌∷◌, length}
use Rattle.lab_model.proofs.Common.{Option, Some, None, filter, map, sum, slice_get, get_or, take}
use Rattle.lab_model.proofs.Common.{◌++◌, refl, ap, add-one, arith, unwrap_or, add-zero}
use Rattle.lab_model.proofs.Common.{range_with_len, map-append, take_more, DevNo, Ram, Dm, Kind}
use Rattle.lab_model.proofs.Common.{Flush, Span, Ref, shifted, Meaning, beyond, cost_within}
use Rattle.lab_model.proofs.Common.{greatest, piece_by, table_cost, table_visits, visits_by}
use Rattle.lab_model.proofs.Common.{visits_within, fits_table, empty_piece, pieces, Scenario, Table}
use Rattle.lab_model.specs.declared.piece.Piece.{Piece}
use Rattle.lab_model.specs.declared.table_line.TableLine.{TableLine}
use Rattle.lab_budget.specs.declared.cost.OpCost.{OpCost}
use Rattle.lab_budget.specs.Capped.{capped}
use Rattle.lab_budget.specs.FlushRow.{IsFlushRow, costs_of, device_flush, entry_of, next_row}
use Rattle.lab_budget.specs.FlushRow.{no_sectors, visits_of}
use Rattle.lab_budget.proofs.SoFar.{capped-greatest, capped-sum, sum-cons}

-- what is summed up over a flush's pieces goes by the lines, if a line's number doesn't matter
lines-sum : {S : Type 0} (of : Piece → Option (TableLine S) → ℕ)
    → ((k : ℕ) (line : TableLine S) → of (empty_piece k) (Some line)
    ≡ of (empty_piece 0) (Some line)) → (at : ℕ → Option (TableLine S)) (j : ℕ) (table : Table S)
    → ((k : ℕ) → at (j + k) ≡ slice_get table k)
    → sum (map (λ piece. of piece (at piece.line))
    (map empty_piece (range_with_len j (length table))))
    ≡ sum (map (λ line. of (empty_piece 0) (Some line)) table)
lines-sum of each at j [] there = refl
lines-sum of each at j (line ∷ table) there =
    let here : at j ≡ Some line = rw add-zero at (there 0) in
    let later : (k : ℕ) → at (j + 1 + k) ≡ slice_get table k =
    λ k. let next : j + 1 + k ≡ j + suc k = omega arith in rw next (there (suc k)) in
    let one : of (empty_piece j) (at j) ≡ of (empty_piece 0) (Some line) = rw here (each j line) in
    omega (
      arith,
      one,
      lines-sum of each at (j + 1) table later,
      sum-cons (λ line. of (empty_piece 0) (Some line)) line table,
      sum-cons (λ piece. of piece (at piece.line)) (empty_piece j)
          (map empty_piece (range_with_len (j + 1) (length table))),
    )

-- what a flush costs at a line, by a row
abbrev pub line_events : {S : Type 0} → Meaning S → List OpCost → TableLine S → ℕ
line_events m row line = piece_by m (costs_of row) Flush (empty_piece 0) (Some line)

-- and its visited pieces there
abbrev pub line_pieces : {S : Type 0} → Meaning S → List OpCost → TableLine S → ℕ
line_pieces m row line = visits_by m (visits_of row) Flush (empty_piece 0) (Some line)

module _ {S : Type 0} (m : Meaning S) (told : DevNo → Kind → Span → ℕ) (span : Span)
    (table : Table S) where
  -- a table's flush goes by its lines
  pub table_cost-lines : table_cost m told Flush span table
      ≡ sum (map (λ line. piece_by m told Flush (empty_piece 0) (Some line)) table)
  table_cost-lines = lines-sum (piece_by m told Flush) (λ k line. refl) (slice_get table) 0 table
      (λ k. ap (slice_get table) (omega arith))

  -- and so do its visited pieces
  pub table_visits-lines : table_visits m told Flush span table
      ≡ sum (map (λ line. visits_by m told Flush (empty_piece 0) (Some line)) table)
  table_visits-lines = lines-sum (visits_by m told Flush) (λ k line. refl) (slice_get table) 0 table
      (λ k. ap (slice_get table) (omega arith))

-- all versions have a flush
every-version : {S : Type 0} (span : Span) (versions : List (Table S))
    → filter (λ table. fits_table table Flush span) versions ≡ versions
every-version span [] = refl
every-version span (table ∷ versions) = search (rules, every-version span versions)

-- where two costs of devices are told alike for flushes, so are those above
module _ {S : Type 0} (m : Meaning S) (f g : DevNo → Kind → Span → ℕ)
    (same : (device : DevNo) (s t : Span) → capped (f device Flush s) ≡ capped (g device Flush t))
  where
    -- behind a reference
    alike-beyond : (hold : ℕ) (s t : Span) (o : Option Ref)
        → capped (beyond f Flush hold s o) ≡ capped (beyond g Flush hold t o)
    alike-beyond hold s t None = refl
    alike-beyond _ s t (Some r) = omega (arith, same r.dev (shifted r.first s) (shifted r.first t))

    -- the visited pieces of a piece
    alike-visits : (piece : Piece) (o : Option (TableLine S))
        → capped (visits_by m f Flush piece o) ≡ capped (visits_by m g Flush piece o)
    alike-visits piece None = refl
    alike-visits piece (Some line) =
        omega (arith, alike-beyond 0 piece.span piece.span ((m.shape line.target).reference Flush))

    module _ (s t : Span) (versions : List (Table S)) where
      -- of a device
      pub alike-cost : capped (2 + greatest (map (table_cost m f Flush s) versions))
          ≡ capped (2 + greatest (map (table_cost m g Flush t)
          (filter (λ table. fits_table table Flush t) versions)))
      alike-cost =
          let told = capped-greatest (table_cost m f Flush s) (table_cost m g Flush t)
          (λ table. capped-sum (λ piece. piece_by m f Flush piece (slice_get table piece.line))
          (λ piece. piece_by m g Flush piece (slice_get table piece.line))
          (λ piece. (search (rules, alike-beyond))) (pieces m table Flush s))
          versions in
          rw (every-version t versions) (omega (arith, told))

      -- the visited pieces of a device
      pub alike-device_visits : capped (sum (map (table_visits m f Flush s) versions))
          ≡ capped (sum (map (table_visits m g Flush t)
          (filter (λ table. fits_table table Flush t) versions)))
      alike-device_visits = search (rules, every-version, capped-sum, alike-visits)

-- the next row at a mapped device
entry-next : {S : Type 0} (m : Meaning S) (row : List OpCost) (versions : List (List (Table S)))
    (number : ℕ)
    → entry_of (next_row m row versions) (Dm number)
    ≡ device_flush m row (unwrap_or (slice_get versions number) [])
entry-next m row [] number = refl
entry-next m row (first ∷ versions) zero = refl
entry-next m row (first ∷ versions) (suc number) = entry-next m row versions number

module _ {S : Type 0} (m : Meaning S) (c : Scenario S) where
  -- the cost of a device by the row below
  next-cost : (depth : ℕ) (row : List OpCost) → IsFlushRow m c depth row → (device : DevNo)
      (span : Span) → (entry_of (next_row m row c.versions) device).cost
      ≡ capped (cost_within m c (suc depth) device Flush span)
  next-cost depth row is (Ram number) span = refl
  next-cost depth row is (Dm number) span =
      rw (entry-next m row c.versions number) (alike-cost m (costs_of row) (cost_within m c depth)
      (λ device s t. omega (arith, is.cost device t)) no_sectors span
      (unwrap_or (slice_get c.versions number) []))

  -- its visited pieces
  next-visited : (depth : ℕ) (row : List OpCost) → IsFlushRow m c depth row → (device : DevNo)
      (span : Span) → (entry_of (next_row m row c.versions) device).visited
      ≡ capped (visits_within m c (suc depth) device Flush span)
  next-visited depth row is (Ram number) span = refl
  next-visited depth row is (Dm number) span =
      rw (entry-next m row c.versions number) (alike-device_visits m (visits_of row)
      (visits_within m c depth) (λ device s t. omega (arith, is.visited device t)) no_sectors
      span (unwrap_or (slice_get c.versions number) []))

  -- the row above a row
  pub row-next : (depth : ℕ) (row : List OpCost) → IsFlushRow m c depth row
      → IsFlushRow m c (depth + 1) (next_row m row c.versions)
  row-next depth row is = search (rules, add-one, next-cost, next-visited)

-- a row with one device more
pub row-more : {S : Type 0} (m : Meaning S) (row : List OpCost) (versions : List (List (Table S)))
    (i : ℕ) (one : List (Table S)) (old next : List OpCost) → i < length versions
    → one ≡ get_or versions i one → old ≡ next_row m row (take i versions)
    → next ≡ old ++ device_flush m row one ∷ [] → next ≡ next_row m row (take (i + 1) versions)
row-more m row versions i one old next within at so is =
    rw (is, so, take_more versions i one within, map-append, ← at)
