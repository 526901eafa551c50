-- What is told of a device by its tables, of a piece by its line, and of a flush by a row; the pieces
-- of sectors that are inside a table are at places that a table may name.
use Rattle.lab_model.proofs.Common.{rules, ◌≡◌, ℕ, ◌+◌, ◌≤◌, List, ◌∷◌, get_or, subst, arith, All, if◌then◌else◌}
use Rattle.lab_model.proofs.Common.{◌≢◌, zero, suc, ◌-◌, length, Option, Some, map, sum, refl}
use Rattle.lab_model.proofs.Common.{All-head, get_or_from_slice_get, slice_get_within, Meaning}
use Rattle.lab_model.proofs.Common.{sector_pieces, Table, size_of, DevNo, Dm, Kind, Flush, Span}
use Rattle.lab_model.proofs.Common.{Ref, shifted, cost, cost_within, greatest}
use Rattle.lab_model.proofs.Common.{piece_by, table_cost, table_visits, visits_by, visits_within}
use Rattle.lab_model.proofs.Common.{Scenario, placed, versions_of, fits_table, filter}
use Rattle.lab_model.specs.declared.piece.Piece.{Piece}
use Rattle.lab_model.specs.declared.table_line.TableLine.{TableLine}
use Rattle.std.proofs.lemmas.List.Elements.{All-get_or}
use Rattle.lab_split.specs.PiecesCover.{IsOfLine}
use Rattle.lab_split.proofs.Covering.{sector_pieces-are}
use Rattle.lab_table.specs.IsTable.{IsLine, IsTable}
use Rattle.lab_budget.specs.Reach.{IsReach}
use Rattle.std.proofs.Math.Numerals.{sub-one}
use Rattle.lab_model.specs.Cost.{visits}
use Rattle.lab_budget.specs.declared.cost.OpCost.{OpCost}
use Rattle.lab_budget.specs.Capped.{capped}
use Rattle.lab_budget.specs.Counted.{IsCounted}
use Rattle.lab_budget.specs.FlushRow.{IsFlushRow, entry_of}

-- a piece of a line of a table is
of-line-reach : {S : Type 0} (m : Meaning S) (table : Table S) (piece : Piece) → IsTable m table
    → IsOfLine m table piece → IsReach m table piece
of-line-reach m table piece is of =
    let within = slice_get_within table piece.line of.line of.there in
    let at : get_or table piece.line of.line ≡ of.line =
    get_or_from_slice_get table piece.line of.line of.line of.there in
    let sound : IsLine m of.line = subst (IsLine m) at
    (All-get_or (IsLine m) table piece.line of.line within is.are_lines.each) in
    record {
      line = of.line;
      there = of.there;
      after = of.after;
      near = omega (arith, of.before, of.after, sound.short);
      sound = sound.sound;
    }

-- the first piece of sectors that are the table's
pub first-reach : {S : Type 0} (m : Meaning S) (table : Table S) (first len : ℕ) (piece : Piece)
    (more : List Piece) → IsTable m table → first + len ≤ size_of table
    → sector_pieces m table first len ≡ piece ∷ more → IsReach m table piece
first-reach m table first len piece more is within same =
    of-line-reach m table piece is (All-head (IsOfLine m table) piece more
    (subst (All (IsOfLine m table)) same
    (sector_pieces-are m table is.are_lines.no_gap first len within).each))

-- a piece that is no flush's is counted from its line's first sector
pub placed-is : {S : Type 0} (kind : Kind) (line : TableLine S) (span : Span) → kind ≢ Flush
    → placed kind line span ≡ record { first = span.first - line.start; len = span.len }
placed-is kind line span other = search rules

module _ {S : Type 0} (m : Meaning S) (c : Scenario S) (number : ℕ) (kind : Kind) (span : Span)
  where
    -- what is told of a mapped device by the depth below
    pub device-counted : (depth before : ℕ) (device : DevNo) (op : OpCost) → depth ≢ 0
        → device ≡ Dm number
        → IsCounted (2 + greatest (map (table_cost m (cost_within m c (depth - 1)) kind span)
        (filter (λ table. fits_table table kind span) (versions_of c.versions number))))
        (before + sum (map (table_visits m (visits_within m c (depth - 1)) kind span)
        (filter (λ table. fits_table table kind span) (versions_of c.versions number)))) op
        → IsCounted (cost_within m c depth device kind span)
        (before + visits_within m c depth device kind span) op
    device-counted zero before device op other is told = absurd (other refl)
    device-counted (suc depth) before device op other is told = rw is (rw sub-one at told)

-- sectors that are moved on
pub shift-is : (place below : Span) (by : ℕ) → below.first ≡ place.first + by
    → below.len ≡ place.len → below ≡ shifted by place
shift-is place below by first len = search rules

module _ {S : Type 0} (m : Meaning S) (costs visits : DevNo → Kind → Span → ℕ) (kind : Kind)
    (piece : Piece) (found : Option (TableLine S)) (line : TableLine S)
    (there : found ≡ Some line) (before : ℕ) (op : OpCost) where
  -- a piece that goes on
  pub piece-goes : (ref : Ref) → (m.shape line.target).reference kind ≡ Some ref
      → (below : Span) → below ≡ shifted ref.first (placed kind line piece.span)
      → (hold visited : ℕ) → hold ≡ (if (m.shape line.target).may_hold kind then 1 else 0)
      → visited ≡ capped (before + 1) → (one : OpCost)
      → IsCounted (costs ref.dev kind below) (visited + visits ref.dev kind below) one
      → op.cost ≡ capped (hold + one.cost) → op.visited ≡ one.visited
      → IsCounted (piece_by m costs kind piece found) (before + visits_by m visits kind piece found)
      op
  piece-goes ref some below is hold visited holds counts one told cost pieces = search rules

-- what a row says of a flush
pub flush-counted : {S : Type 0} (m : Meaning S) (c : Scenario S) (row : List OpCost)
    (device : DevNo) (kind : Kind) (span : Span) (before : ℕ) (op : OpCost) → kind ≡ Flush
    → IsFlushRow m c (length c.versions) row → op.cost ≡ (entry_of row device).cost
    → op.visited ≡ capped (before + (entry_of row device).visited)
    → IsCounted (cost m c device kind span) (before + visits m c device kind span) op
flush-counted m c row device kind span before op flush is costs pieces = search rules
