-- The mapped devices of a run, by the numbers that the creates give them (this project's own).
use Rattle.std.specs.Prelude.{ℕ, List, Option, option_map}
use Rattle.lab_model.specs.Lists.{change}
use Rattle.lab_model.specs.State.{Slot}

-- the mapped devices of a run, by number
pub record DeviceRow (L : Type 0) : Type 0 where
  -- none where the device is removed
  pub slots : List (Option (Slot L))
  -- how many bios are in flight at each
  pub flights : List ℕ

-- the devices with f of the device of this number
abbrev pub with_slot : {L : Type 0} → (Slot L → Slot L) → DeviceRow L → ℕ → DeviceRow L
with_slot f devices device =
    record devices { slots = change devices.slots device (option_map f) }
