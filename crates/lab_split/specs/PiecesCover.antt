-- What the pieces of a bio are to its sectors (this project's own).
use Rattle.std.specs.Prelude.{◌≡◌, ◌≢◌, ℕ, ◌+◌, ◌-◌, ◌<◌, ◌≤◌, true, List, [], ◌∷◌, All, slice_get, Some}
use Rattle.lab_sector.specs.declared.request.Kind.{Kind}
use Rattle.lab_sector.specs.declared.request.Kind.TheVariants.{Flush}
use Rattle.lab_sector.specs.declared.span.Span.{Span}
use Rattle.lab_target.specs.Meaning.{Meaning}
use Rattle.lab_model.specs.declared.piece.Piece.{Piece}
use Rattle.lab_model.specs.declared.table_line.TableLine.{TableLine}
use Rattle.lab_model.specs.MapEffect.{fits_table}
use Rattle.lab_model.specs.Pieces.{pieces}
use Rattle.lab_model.specs.Tables.{Table, HasNoGap}

-- a piece has some sectors, all in its line and in one block of its target
pub record IsOfLine {S : Type 0} (m : Meaning S) (table : Table S) (piece : Piece) : Type 0 where
  pub line : TableLine S
  pub there : slice_get table piece.line ≡ Some line
  pub some : 0 < piece.span.len
  pub after : line.start ≤ piece.span.first
  pub before : piece.span.first + piece.span.len ≤ line.start + line.len
  pub together : (i : ℕ) → i < piece.span.len
      → (m.shape line.target).block (piece.span.first + i - line.start)
      ≡ (m.shape line.target).block (piece.span.first - line.start)

-- the pieces follow one another, and have each of so many sectors from one on once
abbrev pub Covers : ℕ → ℕ → List Piece → Type 0
Covers first len [] = len ≡ 0
Covers first len (piece ∷ more) =
    (piece.span.first ≡ first) × (piece.span.len ≤ len)
    × Covers (first + piece.span.len) (len - piece.span.len) more

-- the pieces of a bio that is inside a table, and no flush
pub record PiecesCover {S : Type 0} (m : Meaning S) : Type 0 where
  pub of_lines : (table : Table S) (kind : Kind) (span : Span) → HasNoGap 0 table
      → kind ≢ Flush → fits_table table kind span ≡ true
      → All (IsOfLine m table) (pieces m table kind span)
  pub cover : (table : Table S) (kind : Kind) (span : Span) → HasNoGap 0 table
      → kind ≢ Flush → fits_table table kind span ≡ true
      → Covers span.first span.len (pieces m table kind span)
