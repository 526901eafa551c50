-- Pieces of a bio on a table without gaps: each is of a line of the table, and lies in that line
-- and in the bio's span.
use Rattle.lab_model.proofs.Common.{◌≡◌, ℕ, zero, suc, ◌+◌, ◌<◌, ◌≤◌, true, false, nat_le, nat_lt}
use Rattle.lab_model.proofs.Common.{List, [], ◌∷◌, Some, map, length, slice_get, inl, inr, refl}
use Rattle.lab_model.proofs.Common.{sym, ◌∙◌, subst, arith, ltb-true, le_refl, rules}
use Rattle.lab_model.proofs.Common.{AllByRecursion, position_or_len, range_with_len, and_parts}
use Rattle.lab_model.proofs.Common.{cases_Bool, nat_tests, Kind, Flush, Span, IsPiece, Meaning}
use Rattle.lab_model.proofs.Common.{fits_table, empty_piece, grown, line_number, piece_of_one}
use Rattle.lab_model.proofs.Common.{pieces, same_class, sector_pieces, with_sector, HasNoGap, Table}
use Rattle.lab_model.proofs.Common.{has_sector, placed, size_of, slice_get-within}
use Rattle.lab_model.specs.declared.piece.Piece.{Piece}
use Rattle.lab_model.specs.declared.table_line.TableLine.{TableLine}
use Rattle.std.proofs.Common.{one-add, leb-true, lt-ltb, eqb-true}

-- a piece of some sectors: it has one, and lies in its line and in the bio's span
pub record LiesInside {S : Type 0} (line : TableLine S) (whole piece : Span) : Type 0 where
  pub some : 0 < piece.len
  pub starts : line.start ≤ piece.first
  pub ends : piece.first + piece.len ≤ line.start + line.len
  pub from : whole.first ≤ piece.first
  pub within : piece.first + piece.len ≤ whole.first + whole.len

-- how the piece of a bio of a kind lies: a flush's is empty
abbrev pub LiesIn : {S : Type 0} → Kind → TableLine S → Span → Span → Type 0
LiesIn Flush line whole piece = piece ≡ record { first = 0; len = 0 }
LiesIn _ line whole piece = LiesInside line whole piece

-- a piece of a bio on a table: its line is one of the table's, and it lies in that
pub record PieceOf {S : Type 0} (table : Table S) (kind : Kind) (whole : Span) (piece : Piece)
    : Type 0 where
  pub line : TableLine S
  pub is_line : slice_get table piece.line ≡ Some line
  pub lies : LiesIn kind line whole piece.span

-- a line of a table at this place has a sector
abbrev SectorAt : {S : Type 0} → Table S → ℕ → ℕ → Type 0
SectorAt {S} table sector place = (line : TableLine S) × (slice_get table place ≡ Some line)
    × (line.start ≤ sector) × (sector < line.start + line.len)

-- a sector from a line's start on that isn't the line's is past its end
sector-past : {S : Type 0} (line : TableLine S) (start sector : ℕ) → line.start ≡ start
    → start ≤ sector → has_sector sector line ≡ false → line.start + line.len ≤ sector
sector-past line start sector starts from is = grind (arith, nat_tests)

-- the first line that has a sector is found where there is no gap
sector-found : {S : Type 0} (table : Table S) (start sector : ℕ) → HasNoGap start table
    → start ≤ sector → sector < start + size_of table
    → (position_or_len (has_sector sector) table < length table)
    × SectorAt table sector (position_or_len (has_sector sector) table)
sector-found [] start sector gap from to = absurd (omega (arith, from, to))
sector-found (line ∷ lines) start sector gap from to =
    elim (cases_Bool (has_sector sector line)) [
      | inl is ↦
          let parts = and_parts (nat_le line.start sector)
          (nat_lt sector (line.start + line.len)) is in
          rw is (omega arith, (line, refl, leb-true _ _ parts.0, ltb-true _ _ parts.1))
      | inr none ↦
          let past = sector-past line start sector gap.0 from none in
          let later = sector-found lines (start + line.len) sector gap.2
          (omega (arith, past, gap.0)) (omega (arith, to)) in
          rw (none, one-add) (omega (arith, later.0), later.1)
    ]

-- the line that has a sector of a table without gaps, by its number
sector-line : {S : Type 0} (table : Table S) (sector : ℕ) → HasNoGap 0 table
    → sector < size_of table → SectorAt table sector (line_number table sector)
sector-line table sector gap inside =
    search (rules, sector-found table 0 sector gap (omega arith) (omega arith), lt-ltb)

-- a piece among those of some sectors: it lies in the line of its first sector
record RunOf {S : Type 0} (table : Table S) (whole : Span) (piece : Piece) : Type 0 where
  pub line : TableLine S
  pub is_line : slice_get table piece.line ≡ Some line
  pub numbered : piece.line ≡ line_number table piece.span.first
  pub lies : LiesInside line whole piece.span

-- the first piece begins at this sector
abbrev pub Begins : ℕ → List Piece → Type 0
Begins first [] = Unit {0}
Begins first (piece ∷ pieces) = piece.span.first ≡ first

module _ {S : Type 0} (m : Meaning S) (table : Table S) (gap : HasNoGap 0 table) (whole : Span)
    (inside : whole.first + whole.len ≤ size_of table) where
  module _ (sector : ℕ) (from : whole.first ≤ sector)
      (to : sector < whole.first + whole.len) where
    -- a piece of one sector
    RunOf-one : RunOf table whole (piece_of_one table sector)
    RunOf-one =
        let found = sector-line table sector gap (omega (arith, to, inside)) in
        record {
          line = found.0;
          is_line = found.1;
          numbered = refl;
          lies = search (arith, found.2, found.3);
        }

    -- a piece with a sector of its class before it
    RunOf-grown : (piece : Piece) → RunOf table whole piece → piece.span.first ≡ sector + 1
        → same_class m table sector piece.span.first ≡ true → RunOf table whole (grown piece sector)
    RunOf-grown piece run begins same =
        let number : line_number table sector ≡ piece.line =
        eqb-true _ _ (and_parts _ _ same).0 ∙ sym run.numbered in
        let found : SectorAt table sector piece.line =
        rw number at (sector-line table sector gap (omega (arith, to, inside))) in
        let one : found.0 ≡ run.line = cc (found.1, run.is_line) in
        let starts = subst (λ line. line.start ≤ sector) one found.2 in
        record {
          line = run.line;
          is_line = run.is_line;
          numbered = sym number;
          lies = search (arith, starts);
        }

    -- the pieces with a sector more before them
    with_sector-runs : (ps : _) → AllByRecursion (RunOf table whole) ps → Begins (sector + 1) ps
        → AllByRecursion (RunOf table whole) (with_sector m table sector ps)
        × Begins sector (with_sector m table sector ps)
    with_sector-runs ps runs begins = search (rules, RunOf-one, RunOf-grown)

  -- the pieces of so many sectors from one on
  sector_pieces-runs : (first count : ℕ) → whole.first ≤ first
      → first + count ≤ whole.first + whole.len
      → AllByRecursion (RunOf table whole) (sector_pieces m table first count)
      × Begins first (sector_pieces m table first count)
  sector_pieces-runs first zero from to = (tt, tt)
  sector_pieces-runs first (suc count) from to =
      let rest = sector_pieces-runs (first + 1) count (omega (arith, from)) (omega (arith, to)) in
      with_sector-runs first from (omega (arith, to)) _ rest.0 rest.1

-- such pieces are a bio's, where its kind isn't a flush
PieceOf-runs : {S : Type 0} (table : Table S) (kind : Kind) (whole : Span)
    → ((line : TableLine S) (piece : Span) → LiesInside line whole piece
    → LiesIn kind line whole piece) → (ps : List Piece) → AllByRecursion (RunOf table whole) ps
    → AllByRecursion (PieceOf table kind whole) ps
PieceOf-runs table kind whole lie [] runs = search rules
PieceOf-runs table kind whole lie (piece ∷ ps) runs =
    search (rules, PieceOf-runs table kind whole lie ps runs.1)

-- a flush's pieces are of the lines that it counts
PieceOf-empty : {S : Type 0} (table : Table S) (whole : Span) (first count : ℕ)
    → first + count ≤ length table
    → AllByRecursion (PieceOf table Flush whole) (map empty_piece (range_with_len first count))
PieceOf-empty table whole first zero inside = tt
PieceOf-empty table whole first (suc count) inside =
    let found = slice_get-within table first (omega (arith, inside)) in (
      record { line = found.0; is_line = found.1; lies = refl },
      PieceOf-empty table whole (first + 1) count (omega (arith, inside)),
    )

-- the pieces of a bio whose sectors are the table's
pub pieces-lie : {S : Type 0} (m : Meaning S) (table : Table S) → HasNoGap 0 table
    → (kind : Kind) (whole : Span) → fits_table table kind whole ≡ true
    → AllByRecursion (PieceOf table kind whole) (pieces m table kind whole)
pieces-lie m table gap Flush whole fits = PieceOf-empty table whole 0 (length table) (omega arith)
pieces-lie m table gap kind whole fits = PieceOf-runs table kind whole (λ line piece lies. lies) _
    (sector_pieces-runs m table gap whole (leb-true _ _ fits) whole.first whole.len (le_refl _)
    (le_refl _)).0

-- a piece of a bio may be judged, as its line counts it
pub lies-is_piece : {S : Type 0} (kind : Kind) (line : TableLine S) (whole piece : Span)
    → LiesIn kind line whole piece → IsPiece kind (placed kind line piece)
lies-is_piece kind line whole piece lies = search rules

-- the sectors that stand for it behind a reference end where those of its line do, or before
pub placed-ends : {S : Type 0} (kind : Kind) (line : TableLine S) (whole piece : Span)
    → LiesIn kind line whole piece
    → (placed kind line piece).first + (placed kind line piece).len ≤ line.len
placed-ends kind line whole piece lies = search rules
