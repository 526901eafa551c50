-- What every table keeps to (dmsetup(8), the table format; the limits are this project's own).
use Rattle.std.specs.Prelude.{◌≡◌, ℕ, ◌+◌, ◌<◌, ◌≤◌, true, length, All, Option, IfSome}
use Rattle.lab_sector.specs.declared.span.Span.{Span}
use Rattle.lab_target.specs.Laws.{greatest_sector}
use Rattle.lab_target.specs.Meaning.{Meaning}
use Rattle.lab_model.specs.declared.table_line.TableLine.{TableLine}
use Rattle.lab_model.specs.Tables.{Table, HasNoGap}

-- the most lines that a table has
abbrev pub most_lines : ℕ
most_lines = 64

-- a line as words may give it: start and length are sectors that a table may name, and the target
-- is sound
pub record IsLine {S : Type 0} (m : Meaning S) (line : TableLine S) : Type 0 where
  pub near : line.start ≤ greatest_sector
  pub short : line.len ≤ greatest_sector
  pub sound : m.is_sound line.target ≡ true

-- lines that may begin a table: the first starts at 0 and each other where the one before ends
pub record AreLines {S : Type 0} (m : Meaning S) (lines : Table S) : Type 0 where
  pub no_gap : HasNoGap 0 lines
  pub few : length lines ≤ most_lines
  pub each : All (IsLine m) lines

-- a table: such lines, one at least
pub record IsTable {S : Type 0} (m : Meaning S) (lines : Table S) : Type 0 where
  pub some : 0 < length lines
  pub are_lines : AreLines m lines

-- the places end within a line
abbrev pub EndsInLine : {S : Type 0} → Span → Option (TableLine S) → Type 0
EndsInLine span line = IfSome line (λ l. span.first + span.len ≤ l.len)
