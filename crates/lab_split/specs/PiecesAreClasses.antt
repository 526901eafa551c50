-- The pieces of a bio are its classes of sectors: a piece has one line and one block, and no class
-- is cut in two (this project's own).
use Rattle.std.specs.Prelude.{◌≡◌, ◌≢◌, ◌⊎◌, ◌↔◌, ◌<◌, ℕ, true, List, Some, length, slice_get}
use Rattle.lab_sector.specs.Span.{Holds}
use Rattle.lab_sector.specs.declared.request.Kind.{Kind}
use Rattle.lab_sector.specs.declared.request.Kind.TheVariants.{Flush}
use Rattle.lab_sector.specs.declared.span.Span.{Span}
use Rattle.lab_target.specs.Meaning.{Meaning}
use Rattle.lab_model.specs.declared.piece.Piece.{Piece}
use Rattle.lab_model.specs.MapEffect.{fits_table}
use Rattle.lab_model.specs.Pieces.{block_at, empty_piece, line_number, pieces}
use Rattle.lab_model.specs.Tables.{Table, HasNoGap}

-- a bio that is no flush, with all its sectors inside a table without gaps
pub record IsInTable {S : Type 0} (table : Table S) (kind : Kind) (span : Span) : Type 0 where
  pub no_gap : HasNoGap 0 table
  pub no_flush : kind ≢ Flush
  pub fits : fits_table table kind span ≡ true

-- of any two pieces of a bio, neighbours or not, the lines differ, or the blocks of their first
-- sectors do
abbrev pub PiecesDiffer : {S : Type 0} → Meaning S → Type 0
PiecesDiffer {S} m = (table : Table S) (kind : Kind) (span : Span) → IsInTable table kind span
    → (i j : ℕ) (left right : Piece) → i < j
    → slice_get (pieces m table kind span) i ≡ Some left
    → slice_get (pieces m table kind span) j ≡ Some right
    → (left.line ≢ right.line)
    ⊎ (block_at m table left.span.first ≢ block_at m table right.span.first)

-- one of the pieces has both sectors
pub record AreInOne (cut : List Piece) (a b : ℕ) : Type 0 where
  pub place : ℕ
  pub piece : Piece
  pub there : slice_get cut place ≡ Some piece
  pub one : Holds piece.span a
  pub other : Holds piece.span b

-- two sectors are of one line, and in one block of its target: what `same_class` tests
abbrev pub AreOfOneClass : {S : Type 0} → Meaning S → Table S → ℕ → ℕ → Type 0
AreOfOneClass m table a b =
    (line_number table a ≡ line_number table b) × (block_at m table a ≡ block_at m table b)

-- two sectors of a bio are in one piece exactly when they are of one line and block
abbrev pub PiecesAreClasses : {S : Type 0} → Meaning S → Type 0
PiecesAreClasses {S} m = (table : Table S) (kind : Kind) (span : Span) → IsInTable table kind span
    → (a b : ℕ) → Holds span a → Holds span b
    → AreInOne (pieces m table kind span) a b ↔ AreOfOneClass m table a b

-- a flush has as many pieces as its table has lines
abbrev pub FlushIsCounted : {S : Type 0} → Meaning S → Type 0
FlushIsCounted {S} m = (table : Table S) (span : Span)
    → length (pieces m table Flush span) ≡ length table

-- a flush's piece at each line's place is that line's, and empty
abbrev pub FlushIsOrdered : {S : Type 0} → Meaning S → Type 0
FlushIsOrdered {S} m = (table : Table S) (span : Span) (line : ℕ) → line < length table
    → slice_get (pieces m table Flush span) line ≡ Some (empty_piece line)
