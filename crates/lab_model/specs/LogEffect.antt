-- A log's line (fio's manual, trace file format version 2; the fill is this project's own).
use Rattle.std.specs.Prelude.{ℕ, ◌+◌, ◌*◌, ◌%◌, Bool, is_some, nat_lt, [], ◌∷◌, ◌++◌, Option, Some}
use Rattle.std.specs.Prelude.{slice_get, if◌then◌else◌}
use Rattle.lab_sector.specs.declared.device.DevNo.{DevNo}
use Rattle.lab_sector.specs.declared.device.DevNo.TheVariants.{Ram, Dm}
use Rattle.lab_sector.specs.declared.request.Kind.{Kind}
use Rattle.lab_sector.specs.declared.request.Kind.TheVariants as kinds
use Rattle.lab_sector.specs.declared.span.Span.{Span}
use Rattle.lab_target.specs.Types.{no_marks}
use Rattle.lab_model.specs.declared.entry.Action.{Action}
use Rattle.lab_model.specs.declared.entry.Action.TheVariants.{Read, Write, Trim}
use Rattle.lab_model.specs.declared.entry.Entry.{Entry}
use Rattle.lab_model.specs.declared.entry.Entry.TheVariants.{Wait, Operate}
use Rattle.lab_model.specs.After.{After, Next, NoDevice, Closed, given, unless, where_there}
use Rattle.lab_model.specs.Bios.{Bio, Entering}
use Rattle.lab_model.specs.declared.parent.Parent.TheVariants.{FromLog}
use Rattle.lab_model.specs.Files.{allows, files_after}
use Rattle.lab_model.specs.Lists.{change_numbered, numbered}
use Rattle.lab_model.specs.Scenario.{Scenario}
use Rattle.lab_model.specs.declared.plan.LogLine.{LogLine}
use Rattle.lab_model.specs.Sectors.{Sectors, filled}
use Rattle.lab_model.specs.Slots.{slot_at}
use Rattle.lab_model.specs.State.{State, LogState, disk_of}

-- whether a device is there
abbrev pub stands : {S : Type 0} → State S → DevNo → Bool
stands s (Ram number) = is_some (disk_of s number)
stands s (Dm number) = is_some (slot_at s.devices number)

-- the kind of an operation's bio: both syncs are flushes
abbrev pub kind_of : Action → Kind
kind_of Read = kinds.Read
kind_of Write = kinds.Write
kind_of Trim = kinds.Trim
kind_of _ = kinds.Flush

-- the byte of a write on a line of a log: each log and line has one of its own
abbrev pub fill_of : ℕ → ℕ → ℕ
fill_of log line = (16 * log + line) % 256

-- what a write of these sectors writes; another operation writes nothing
abbrev pub written : Action → ℕ → ℕ → Sectors
written Write byte count = filled count byte
written _ byte count = []

-- the bio of an operation
abbrev pub operation : ℕ → ℕ → DevNo → Action → Span → Bio
operation log line device action span = record {
  kind = kind_of action;
  device = device;
  span = span;
  parent = FromLog log line action;
  marks = no_marks;
  sectors = written action (fill_of log line) span.len;
  stage = Entering;
}

-- how long a line waits, in microseconds; a wait below 100 is discarded
abbrev pub wait_of : Entry → ℕ
wait_of (Wait time) = if nat_lt time 100 then 0 else time
wait_of _ = 0

-- the log with one line more taken
abbrev pub next_line : LogState → LogState
next_line log = record log { taken = log.taken + 1 }

-- the log's state is f of it
abbrev pub with_log : {S : Type 0} → State S → ℕ → (LogState → LogState) → State S
with_log s number f = record s { logs = change_numbered s.logs number (λ log. f (next_line log)) }

-- what a line does to the log that has taken it: a wait makes its moment later, and the files are
-- as they are after the line
abbrev pub after_line : Option DevNo → Entry → LogState → LogState
after_line device entry log =
    record log { moment = log.moment + wait_of entry; files = files_after log.files entry device }

-- the state after a line on a device that is there: an operation makes a bio
abbrev pub entered : {S : Type 0} → State S → ℕ → LogLine → DevNo → Entry → State S
entered s number line device (Operate action span) =
    record (with_log s number (λ log. log)) {
      bios = s.bios ++ Some (operation number line.number device action span) ∷ [];
    }
entered s number line device entry = with_log s number (after_line line.device entry)

-- a wait names no file; any other line does, whose device is there, and which may come
abbrev pub line_effect : {S : Type 0} → State S → ℕ → LogState → LogLine → Entry → After S
line_effect s number log line (Wait time) =
    Next (with_log s number (after_line line.device (Wait time)))
line_effect s number log line entry = given NoDevice line.device
    (λ device. unless NoDevice (stands s device) (unless Closed (allows log.files device entry)
    (Next (entered s number line device entry))))

-- the log of this number takes its next line
abbrev pub take_line : {S : Type 0} → Scenario S → State S → ℕ → After S
take_line c s number =
    where_there s (numbered c.logs number) (λ plan. where_there s (numbered s.logs number)
    (λ log. where_there s (slice_get plan.lines log.taken)
    (λ line. line_effect s number log line line.entry)))
