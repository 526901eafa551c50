-- Which running device a command suspends (dmsetup(8), suspend and resume).
use Rattle.std.specs.Prelude.{ℕ, ◌&&◌, Bool, is_some, if◌then◌else◌, List, Option, None}
use Rattle.lab_target.specs.Meaning.{Shape}
use Rattle.lab_model.specs.Guard.{runs as mode_runs}
use Rattle.lab_model.specs.State.{Slot as DeviceSlot}
use Rattle.lab_model.specs.Tables.{Table}
use Rattle.lab_script.specs.Task.{Task, suspend, resume, on}
use Rattle.lab_rulebook.specs.Standing.{Standing as Stands}
use Rattle.lab_standing.specs.Seen.{passes, slot_named}

-- whether a device runs
abbrev pub runs : {L : Type 0} → DeviceSlot L → Bool
runs slot = mode_runs slot.mode

-- whether a device runs and has an inactive table
abbrev pub swaps : {L : Type 0} → DeviceSlot L → Bool
swaps slot = mode_runs slot.mode && is_some slot.inactive

-- the device of a name, if it stands and passes a test
abbrev pub named_with : {S : Type 0} → (DeviceSlot (Table (Shape S)) → Bool) → Stands S → List ℕ
    → Option ℕ
named_with test s name =
    if passes (slot_named s name) test then s.device_of name else None

-- the running device that a command suspends: for itself, or for a swap
abbrev pub suspended_by : {S : Type 0} → Stands S → Task → Option ℕ
suspended_by s (on name suspend) = named_with runs s name
suspended_by s (on name resume) = named_with swaps s name
suspended_by s _ = None
