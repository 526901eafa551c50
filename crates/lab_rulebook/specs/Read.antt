-- What reading gives of a bundle's parts, whatever names stand (this project's own).
use Rattle.std.specs.Prelude.{◌≡◌, ℕ, true, Option, Some, slice_get}
use Rattle.lab_sector.specs.declared.device.DevNo.{DevNo}
use Rattle.lab_target.specs.Meaning.{Meaning}
use Rattle.lab_model.specs.declared.table_line.TableLine.{TableLine}
use Rattle.lab_model.specs.Tables.{HasNoGap, Table}
use Rattle.lab_rulebook.specs.Parts.{DeviceWord, Parts, TablePart}

-- a table as it is read: its lines have no gap, and each line's target is sound and in its opening
-- state
pub record WellReadTable {S : Type 0} (m : Meaning S) (table : Table S) : Type 0 where
  pub no_gap : HasNoGap 0 table
  pub lines : (number : ℕ) (line : TableLine S) → slice_get table number ≡ Some line
      → (m.is_sound line.target ≡ true) × ((m.shape line.target).opening ≡ line.target)

-- the parts as they are read: each table part under any names
pub record WellRead {S : Type 0} (m : Meaning S) (parts : Parts S) : Type 0 where
  pub tables : (number : ℕ) (part : TablePart S) → slice_get parts.tables number ≡ Some part
      → (names : DeviceWord → Option DevNo) (table : Table S) → part.under names ≡ Some table
      → WellReadTable m table
