-- Pieces whose sectors may be named behind a line's reference (this project's own).
use Rattle.std.specs.Prelude.{◌≡◌, ◌-◌, ◌≤◌, true, slice_get, Some}
use Rattle.lab_target.specs.Laws.{greatest_sector}
use Rattle.lab_target.specs.Meaning.{Meaning}
use Rattle.lab_model.specs.declared.piece.Piece.{Piece}
use Rattle.lab_model.specs.declared.table_line.TableLine.{TableLine}
use Rattle.lab_model.specs.Tables.{Table}

-- a piece of a line that has a sound target, at a place that a table may name
pub record IsReach {S : Type 0} (m : Meaning S) (table : Table S) (piece : Piece) : Type 0 where
  pub line : TableLine S
  pub there : slice_get table piece.line ≡ Some line
  pub after : line.start ≤ piece.span.first
  pub near : piece.span.first - line.start ≤ greatest_sector
  pub sound : m.is_sound line.target ≡ true
