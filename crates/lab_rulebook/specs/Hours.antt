-- What reading gives of times: no sleep and no wait is longer than an hour (this project's own).
use Rattle.std.specs.Prelude.{◌≡◌, ℕ, ◌≤◌, Option, Some, slice_get}
use Rattle.lab_script.specs.Script.{ScriptRow}
use Rattle.lab_script.specs.Task.{Task, sleep}
use Rattle.law_slots.specs.Timely.{EntryIsTimely, hour}
use Rattle.lab_sector.specs.declared.device.DevNo.{DevNo}
use Rattle.lab_model.specs.declared.plan.LogLine.{LogLine}
use Rattle.lab_rulebook.specs.Parts.{DeviceWord, LogPart, Parts}

-- a command sleeps for an hour at most
abbrev pub TaskIsTimely : Task → Type 0
TaskIsTimely (sleep time) = time ≤ hour
TaskIsTimely _ = Unit {0}

-- each sleep and each wait of the parts is an hour at most
pub record ReadInHours {S : Type 0} (parts : Parts S) : Type 0 where
  pub sleeps : (place : ℕ) (row : ScriptRow) → slice_get parts.script place ≡ Some row
      → TaskIsTimely row.task
  pub waits : (names : DeviceWord → Option DevNo) (number place : ℕ) (part : LogPart)
      (line : LogLine) → slice_get parts.logs number ≡ Some part
      → slice_get (part.under names) place ≡ Some line → EntryIsTimely line.entry
