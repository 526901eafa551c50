-- What the devices end as, where a `&mut` into them is handed out (this project's own).
use Rattle.std.specs.Prelude.{ℕ, Option}
use Rattle.std.specs.Borrow.{Fml, Lends, LendsIf, MutBor, RattleType}
use Rattle.lab_model.specs.MapEffect.{with_live}
use Rattle.lab_model.specs.State.{Slot}
use Rattle.lab_device.specs.Devices.{DeviceRow, with_slot}
use Rattle.lab_device.specs.contracts.devices.Devices.{the_row}
use Rattle.lab_device.specs.contracts.slot.Slot.{the_row as slot_row}

-- the device of this number is the last one behind the reference, and nothing else changes
abbrev pub LendsSlot : (L : RattleType) → MutBor (DeviceRow L.Denot) → ℕ → MutBor (Slot L.Denot)
    → Fml
LendsSlot L devices device slot =
    Lends (the_row L) (slot_row L) devices slot (λ last. with_slot (λ _. last) devices.now device)

-- the device's live table is the last one behind the reference, and nothing else changes;
-- without one all stays
abbrev pub LendsLive : (L : RattleType) → MutBor (DeviceRow L.Denot) → ℕ
    → Option (MutBor L.Denot) → Fml
LendsLive L devices device table = LendsIf (the_row L) L devices table
    (λ last. with_slot (with_live last) devices.now device) devices.now
