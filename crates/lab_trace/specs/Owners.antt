-- The log that a trace tells of an event, beside whom the event belongs to (this project's own).
use Rattle.std.specs.Prelude.{◌≡◌, ℕ, Option, Some, None}
use Rattle.lab_model.specs.declared.event.Who.{Who}
use Rattle.lab_model.specs.declared.event.Who.TheVariants.{Log, Control, Timers}

-- the number of a log that is told; 0, which no log has, where none is
abbrev pub log_number : Option ℕ → ℕ
log_number None = 0
log_number (Some log) = log

-- the log that is told is the one that the event belongs to, and none is told of the script's; a
-- release, which is the timers', is told with its bio's
abbrev pub TellsOwner : Who → Option ℕ → Type 0
TellsOwner (Log number) log = log_number log ≡ number
TellsOwner Control log = log ≡ None
TellsOwner Timers log = Unit {0}
