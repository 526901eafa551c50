-- Cutting a run of sectors from the front, as the kernel's device-mapper cuts bios.
use Rattle.std.specs.Prelude.{◌≡◌, ℕ, ◌+◌, ◌-◌, ◌<◌, ◌≤◌, min, slice_get, Some}
use Rattle.lab_target.specs.Laws.{CutsAt}
use Rattle.lab_target.specs.Meaning.{Meaning}
use Rattle.lab_model.specs.declared.table_line.TableLine.{TableLine}
use Rattle.lab_model.specs.Tables.{Table, HasNoGap, line_at, size_of}
use Rattle.lab_split.specs.declared.cut.Uncut.{Uncut}

-- a run of sectors that begins in a line, and how many of them the line's target takes at once
pub record IsCut {S : Type 0} (m : Meaning S) (table : Table S) (number first len count : ℕ)
    : Type 0 where
  pub no_gap : HasNoGap 0 table
  -- the line has the first of the sectors, and all are the table's
  pub line : TableLine S
  pub there : slice_get table number ≡ Some line
  pub after : line.start ≤ first
  pub before : first < line.start + line.len
  pub within : first + len ≤ size_of table
  -- the line's target takes so many of those that are the line's
  pub cuts : CutsAt (m.shape line.target).block (first - line.start)
      (min (line.len - (first - line.start)) len) count

-- a sector is the line's, or the one at its end
pub record IsInOrPast {S : Type 0} (table : Table S) (number sector : ℕ) : Type 0 where
  pub line : TableLine S
  pub there : slice_get table number ≡ Some line
  pub after : line.start ≤ sector
  pub upto : sector ≤ line.start + line.len

-- sectors that are left to cut: all are the table's, and the first is the line's, if there are any
pub record IsUncut {S : Type 0} (table : Table S) (uncut : Uncut) : Type 0 where
  pub inside : uncut.span.first + uncut.span.len ≤ size_of table
  pub found : 0 < uncut.span.len → line_at table uncut.span.first ≡ Some uncut.line
