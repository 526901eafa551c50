-- What the script's steps leave (dmsetup(8)).
use Rattle.std.specs.Prelude.{List, Option}
use Rattle.lab_model.specs.State.{Slot, State}
use Rattle.lab_model.specs.Tables.{Table}

-- the state with these devices
abbrev pub with_devices : {S : Type 0} → State S → List (Option (Slot (Table S))) → State S
with_devices s devices = record s { devices = devices }
