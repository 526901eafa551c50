-- Cutting: two sectors of a bio are in one class when they have the same line, and the same
-- block of its target.
-- The pieces are the classes, in rising order. A flush has an empty piece for each line (this
-- project's own).
use Rattle.std.specs.Prelude.{ℕ, suc, zero, ◌+◌, ◌-◌, ◌==◌, ◌&&◌, Bool, List, [], ◌∷◌, if◌then◌else◌, length, map, slice_get, unwrap_or}
use Rattle.std.specs.List.{range_with_len}
use Rattle.std.specs.Option.{option_map_or}
use Rattle.lab_sector.specs.declared.request.Kind.{Kind}
use Rattle.lab_sector.specs.declared.request.Kind.TheVariants.{Flush}
use Rattle.lab_sector.specs.declared.span.Span.{Span}
use Rattle.lab_model.specs.declared.piece.Piece.{Piece}
use Rattle.lab_model.specs.declared.table_line.TableLine.{TableLine}
use Rattle.lab_target.specs.Meaning.{Meaning}
use Rattle.lab_model.specs.Tables.{Table, line_at}

-- the number of the line that has a sector; a sector past the end is of the first
abbrev pub line_number : {S : Type 0} → Table S → ℕ → ℕ
line_number table sector = unwrap_or (line_at table sector) 0

-- the block of a sector of a table's device
abbrev pub block_at : {S : Type 0} → Meaning S → Table S → ℕ → ℕ
block_at {S} m table sector =
    option_map_or (λ (line : TableLine S). (m.shape line.target).block (sector - line.start))
    (slice_get table (line_number table sector)) 0

-- whether two sectors have the same line and block
abbrev pub same_class : {S : Type 0} → Meaning S → Table S → ℕ → ℕ → Bool
same_class m table a b =
    (line_number table a == line_number table b) && (block_at m table a == block_at m table b)

-- a piece of one sector
abbrev pub piece_of_one : {S : Type 0} → Table S → ℕ → Piece
piece_of_one table sector =
    record { line = line_number table sector; span = record { first = sector; len = 1 } }

-- a piece with one sector more before it
abbrev pub grown : Piece → ℕ → Piece
grown piece sector =
    record { line = piece.line; span = record { first = sector; len = piece.span.len + 1 } }

-- the pieces with a sector before the first: it joins the first piece if they are of one class
abbrev pub with_sector : {S : Type 0} → Meaning S → Table S → ℕ → List Piece → List Piece
with_sector m table sector [] = piece_of_one table sector ∷ []
with_sector m table sector (piece ∷ pieces) = if same_class m table sector piece.span.first
    then grown piece sector ∷ pieces
    else piece_of_one table sector ∷ piece ∷ pieces

-- the pieces of so many sectors from one on
abbrev pub sector_pieces : {S : Type 0} → Meaning S → Table S → ℕ → ℕ → List Piece
sector_pieces m table first zero = []
sector_pieces m table first (suc more) =
    with_sector m table first (sector_pieces m table (first + 1) more)

-- a line's empty piece
abbrev pub empty_piece : ℕ → Piece
empty_piece line = record { line = line; span = record { first = 0; len = 0 } }

-- the pieces of a bio on a table, in order
abbrev pub pieces : {S : Type 0} → Meaning S → Table S → Kind → Span → List Piece
pieces m table Flush span = map empty_piece (range_with_len 0 (length table))
pieces m table _ span = sector_pieces m table span.first span.len
