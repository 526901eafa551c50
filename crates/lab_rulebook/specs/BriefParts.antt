-- How long what is read of any texts may take: no sleep and no wait is longer than words may say,
-- which is an hour (this project's own).
use Rattle.std.specs.Prelude.{◌≡◌, ℕ, ◌≤◌, Option, Some, slice_get}
use Rattle.lab_model.specs.declared.entry.Entry.{Entry}
use Rattle.lab_model.specs.declared.entry.Entry.TheVariants.{Wait}
use Rattle.lab_target.specs.Meaning.{Meaning}
use Rattle.lab_iolog.specs.Line.{max_wait}
use Rattle.lab_script.specs.Script.{ScriptRow}
use Rattle.lab_script.specs.Task.{Task, max_sleep, sleep}
use Rattle.lab_sector.specs.declared.device.DevNo.{DevNo}
use Rattle.lab_model.specs.declared.plan.LogLine.{LogLine}
use Rattle.lab_rulebook.specs.Parts.{DeviceWord, LogPart, Parts}
use Rattle.lab_rulebook.specs.PartsOf.{Texts, parts_of_texts}

-- a command sleeps no longer than that
abbrev pub SleepIsBrief : Task → Type 0
SleepIsBrief (sleep time) = time ≤ max_sleep
SleepIsBrief _ = Unit {0}

-- a log line waits no longer than that
abbrev pub WaitIsBrief : Entry → Type 0
WaitIsBrief (Wait time) = time ≤ max_wait
WaitIsBrief _ = Unit {0}

-- no command and no log line takes longer
pub record AreBrief {S : Type 0} (parts : Parts S) : Type 0 where
  pub sleeps : (place : ℕ) (row : ScriptRow) → slice_get parts.script place ≡ Some row
      → SleepIsBrief row.task
  pub waits : (names : DeviceWord → Option DevNo) (number place : ℕ) (part : LogPart)
      (line : LogLine) → slice_get parts.logs number ≡ Some part
      → slice_get (part.under names) place ≡ Some line → WaitIsBrief line.entry

-- the parts of texts are brief
abbrev pub PartsAreBrief : {S : Type 0} → Meaning S → Type 0
PartsAreBrief m = (texts : Texts) → AreBrief (parts_of_texts m texts)
