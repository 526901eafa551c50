-- What the values of the walk through a script stand for (this project's own).
use Rattle.std.specs.Prelude.{ℕ, map}
use Rattle.std.specs.Map.{lookup}
use Rattle.std.specs.Option.{option_map}
use Rattle.std.specs.Str.{bytes_eq}
use Rattle.lab_model.specs.State.{Slot}
use Rattle.lab_script.specs.declared.known.KnownDevice.{KnownDevice}
use Rattle.lab_script.specs.declared.slot.DeviceVersions.{DeviceVersions}
use Rattle.lab_script.specs.declared.walk.Walk.{Walk as ScriptWalk}
use Rattle.lab_script.specs.Walk.{Walk, WalkDevice}

-- a device with its tables' numbers
abbrev pub plain : DeviceVersions → Slot ℕ
plain slot = record { live = slot.live; inactive = slot.inactive; mode = slot.mode }

-- a device, as the walk knows it
abbrev pub known : KnownDevice → WalkDevice ℕ
known d = record { number = d.number; versions = d.versions; slot = plain d.slot }

-- what a walk knows
abbrev pub walk_known : ScriptWalk → Walk ℕ
walk_known w = record {
  device_of = λ name. lookup (λ key. bytes_eq name key.now) w.names.entries;
  devices = map (option_map plain) w.slots.items;
  loads = w.loads.items;
}
