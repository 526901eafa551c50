-- The steps of a command: only a create makes a device, and only a sleep sleeps.
use Rattle.lab_script.specs.Task.{Task, create, sleep}

-- a command that does neither
abbrev pub TaskIsPlain : Task → Type 0
TaskIsPlain (create name chosen) = ⊥
TaskIsPlain (sleep time) = ⊥
TaskIsPlain _ = Unit {0}
