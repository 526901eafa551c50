-- The sizes of devices along the walk, and what references and log lines find there (dmsetup(8)).
use Rattle.std.specs.Prelude.{◌≡◌, ℕ, ◌+◌, ◌≤◌, ◌==◌, List, Option, Some, IfSome, find}
use Rattle.std.specs.Prelude.{slice_get}
use Rattle.std.specs.Option.{IsSomeAnd, option_map, option_map_or}
use Rattle.lab_sector.specs.declared.device.DevNo.{DevNo}
use Rattle.lab_sector.specs.declared.device.DevNo.TheVariants.{Ram, Dm}
use Rattle.lab_sector.specs.declared.request.Kind.{Kind}
use Rattle.lab_target.specs.declared.verdict.Ref.{Ref}
use Rattle.lab_target.specs.Meaning.{Shape}
use Rattle.lab_model.specs.declared.table_line.TableLine.{TableLine}
use Rattle.lab_model.specs.Scenario.{Scenario}
use Rattle.lab_model.specs.declared.plan.DiskPlan.{DiskPlan}
use Rattle.lab_model.specs.State.{Slot}
use Rattle.lab_model.specs.Tables.{HasNoGap, Table, size_of}
use Rattle.lab_model.specs.Walk.{Devices}
use Rattle.lab_model.specs.Slots.{slot_at}

-- the size of a live table in sectors; 0 where there is none
abbrev pub live_size : {L : Type 0} → Option (Table L) → ℕ
live_size live = option_map_or size_of live 0

-- the size of a device at this place of the walk, if it stands
abbrev pub size_at : {S : Type 0} → List DiskPlan → Devices S → DevNo → Option ℕ
size_at disks slots (Ram number) =
    option_map (λ disk. disk.size) (find (λ disk. disk.number == number) disks)
size_at disks slots (Dm number) = option_map (λ slot. live_size slot.live) (slot_at slots number)

-- the device stands, and its first sectors up to this end are inside it
abbrev pub Reaches : Option ℕ → ℕ → Type 0
Reaches size end = IsSomeAnd size (λ found. end ≤ found)

-- a table may stand: its lines have no gap, and each reference of a line is inside the device
-- that it names, over the whole line
pub record TableStands {S : Type 0} (c : Scenario S) (devices : Devices S)
    (table : Table (Shape S)) : Type 0 where
  pub no_gap : HasNoGap 0 table
  pub inside : (number : ℕ) (line : TableLine (Shape S)) (kind : Kind) (ref : Ref)
      → slice_get table number ≡ Some line → line.target.reference kind ≡ Some ref
      → Reaches (size_at c.disks devices ref.dev) (ref.first + line.len)

-- the tables of a device may stand, and an inactive one makes it no shorter
pub record SlotStands {S : Type 0} (c : Scenario S) (devices : Devices S)
    (slot : Slot (Table (Shape S))) : Type 0 where
  pub live : IfSome slot.live (TableStands c devices)
  pub inactive : IfSome slot.inactive (TableStands c devices)
  pub longer : IfSome slot.inactive (λ table. live_size slot.live ≤ size_of table)

-- the tables of all devices may stand
abbrev pub DevicesStand : {S : Type 0} → Scenario S → Devices S → Type 0
DevicesStand {S} c devices = (number : ℕ) (slot : Slot (Table (Shape S)))
    → slot_at devices number ≡ Some slot → SlotStands c devices slot
