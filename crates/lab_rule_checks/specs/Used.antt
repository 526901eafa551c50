-- Which devices are still used (dmsetup(8), remove).
use Rattle.std.specs.Prelude.{◌++◌, Bool, false, Option, Some, None}
use Rattle.std.specs.List.{list_any}
use Rattle.lab_sector.specs.declared.device.DevNo.{DevNo}
use Rattle.lab_target.specs.Meaning.{Shape}
use Rattle.lab_model.specs.Files.{has_device, same_device}
use Rattle.lab_model.specs.Fine.{under_live}
use Rattle.lab_model.specs.Scenario.{LogPlan}
use Rattle.lab_model.specs.declared.plan.LogLine.{LogLine}
use Rattle.lab_model.specs.State.{Slot as DeviceSlot}
use Rattle.lab_model.specs.Tables.{Table}

-- whether a device stands with a table in one of its slots that refers to another device
abbrev pub refers_in : {S : Type 0} → Option (DeviceSlot (Table (Shape S))) → DevNo → Bool
refers_in None device = false
refers_in (Some slot) device =
    has_device device (under_live slot.live ++ under_live slot.inactive)

-- whether it is a device, and this one
abbrev pub is_device : DevNo → Option DevNo → Bool
is_device device None = false
is_device device (Some named) = same_device device named

-- whether a log line names a device
abbrev pub is_named_by : DevNo → LogLine → Bool
is_named_by device line = is_device device line.device

-- whether a line of a log names a device
abbrev pub names_device : DevNo → LogPlan → Bool
names_device device plan = list_any (is_named_by device) plan.lines
