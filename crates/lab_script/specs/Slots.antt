-- What a command of a script does to the slots and the mode of its device, whatever stands for a
-- table: a number of a version, or the table itself (dmsetup(8)).
use Rattle.std.specs.Prelude.{◌||◌, Bool, true, false, if◌then◌else◌, Option, None, is_some}
use Rattle.lab_model.specs.declared.micro.Mode.{Mode}
use Rattle.lab_model.specs.declared.micro.Mode.TheVariants.{Suspended}
use Rattle.lab_model.specs.ControlEffect.{swapped, with_inactive, with_mode}
use Rattle.lab_model.specs.State.{Slot}
use Rattle.lab_script.specs.Task.{Task, load, clear, suspend, resume, on}

-- a mode is that of a suspended device
abbrev pub is_suspended : Mode → Bool
is_suspended Suspended = true
is_suspended _ = false

-- a suspended device is resumed by its inactive table; so is a running one that has one
abbrev pub resumed : {L : Type 0} → Slot L → Slot L
resumed slot = if is_suspended slot.mode || is_some slot.inactive then swapped slot else slot

-- a device after a command on it, with the table that it loads; only a load needs one
abbrev pub slot_after : {L : Type 0} → Task → Option L → Slot L → Slot L
slot_after (on name (load chosen)) table slot = with_inactive table slot
slot_after (on name clear) table slot = with_inactive None slot
slot_after (on name suspend) table slot = with_mode Suspended slot
slot_after (on name resume) table slot = resumed slot
slot_after _ table slot = slot
