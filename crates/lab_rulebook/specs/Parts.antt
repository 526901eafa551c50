-- The parts of a bundle after each was read by itself: tables, the script, the logs (this
-- project's own).
use Rattle.std.specs.Prelude.{ℕ, List, Option}
use Rattle.std.specs.List.{find}
use Rattle.std.specs.Str.{bytes_eq}
use Rattle.lab_sector.specs.declared.device.DevNo.{DevNo}
use Rattle.lab_script.specs.Script.{ScriptRow}
use Rattle.lab_model.specs.declared.plan.LogLine.{LogLine}
use Rattle.lab_model.specs.Tables.{Table}

-- what the word of a device says: the number of a disk or of a mapped device, or a name
pub data DeviceWord : Type 0 where
  disk mapped : ℕ → DeviceWord
  named : List ℕ → DeviceWord

-- a table part: its name, and the table that its text is under some names, or none where one of its
-- device words is unknown there
pub record TablePart (S : Type 0) : Type 0 where
  pub name : List ℕ
  pub under : (DeviceWord → Option DevNo) → Option (Table S)

-- a log part: its name, and its lines after the header as they are under some names
pub record LogPart : Type 0 where
  pub name : List ℕ
  pub under : (DeviceWord → Option DevNo) → List LogLine

-- what a bundle's parts say
pub record Parts (S : Type 0) : Type 0 where
  pub tables : List (TablePart S)
  pub script : List ScriptRow
  pub logs : List LogPart

-- the part of a name
abbrev pub part_named : {S : Type 0} → List (TablePart S) → List ℕ → Option (TablePart S)
part_named {S} parts name = find (λ (part : TablePart S). bytes_eq part.name name) parts
