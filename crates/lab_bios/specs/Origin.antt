-- The log that each living bio comes from (this project's own).
use Rattle.std.specs.Prelude.{ℕ, List, [], Option, false}
use Rattle.lab_model.specs.Bios.{Bio}
use Rattle.lab_model.specs.Owner.{origin}
use Rattle.lab_model.specs.State.{State}

-- a state with these bios and nothing else
abbrev pub state_with : List (Option Bio) → State (Unit {0})
state_with bios = record {
  clock = 0;
  bios = bios;
  devices = [];
  disks = [];
  logs = [];
  started = false;
  done = 0;
  moment = 0;
  replies = [];
}

-- the log that the bio of a number comes from; 0, which no log has, where there is none
abbrev pub log_of : List (Option Bio) → ℕ → ℕ
log_of bios number = origin (state_with bios) number
