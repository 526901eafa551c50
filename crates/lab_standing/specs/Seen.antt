-- What stands of a device, and which tests a rule puts to it (dmsetup(8)).
use Rattle.std.specs.Prelude.{ℕ, nat_lt, Bool, false, List, Option, Some, None, is_some, not, ◌&&◌, option_map, option_and_then}
use Rattle.std.specs.Prelude.{option_copied}
use Rattle.lab_target.specs.Meaning.{Meaning, Shape}
use Rattle.lab_model.specs.Guard.{runs}
use Rattle.lab_model.specs.State.{Slot as DeviceSlot}
use Rattle.lab_model.specs.Tables.{Table, image, size_of}
use Rattle.lab_model.specs.Sizes.{live_size}
use Rattle.lab_model.specs.Slots.{slot_at}
use Rattle.lab_rulebook.specs.Standing.{Standing as Stands}
use Rattle.lab_standing.specs.declared.seen.Seen.{Seen}

-- a device with its tables, as the definitions of what is accepted see it
abbrev pub seen_slot : {S : Type 0} → Meaning S → Seen S → DeviceSlot (Table (Shape S))
seen_slot m seen = record {
  live = option_map (image m) (option_copied seen.live);
  inactive = option_map (image m) (option_copied seen.inactive);
  mode = seen.mode;
}

-- the slots of the device of a name, if it stands
abbrev pub slot_named : {S : Type 0} → Stands S → List ℕ → Option (DeviceSlot (Table (Shape S)))
slot_named s name = option_and_then (slot_at s.devices) (s.device_of name)

-- whether there is a value, and it passes a test
abbrev pub passes : {X : Type 0} → Option X → (X → Bool) → Bool
passes None test = false
passes (Some x) test = test x

-- whether a device has no live table
abbrev pub has_no_live : {L : Type 0} → DeviceSlot L → Bool
has_no_live slot = not (is_some slot.live)

-- whether a device has neither a live nor an inactive table
abbrev pub has_neither : {L : Type 0} → DeviceSlot L → Bool
has_neither slot = not (is_some slot.live) && not (is_some slot.inactive)

-- whether the live table of a device, with none as an empty one, is longer than a table
abbrev pub is_longer_than : {L K : Type 0} → Table K → DeviceSlot (Table L) → Bool
is_longer_than table slot = nat_lt (size_of table) (live_size slot.live)

-- whether a device doesn't run
abbrev pub rests : {L : Type 0} → DeviceSlot L → Bool
rests slot = not (runs slot.mode)
