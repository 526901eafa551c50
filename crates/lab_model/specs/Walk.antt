-- The slots and modes of all devices after the first micro-commands, a function of the script
-- and its tables alone
-- (dmsetup(8)).
use Rattle.std.specs.Prelude.{ℕ, List, [], ◌∷◌, ◌++◌, Option, Some, None, fold, take, map, option_map}
use Rattle.lab_target.specs.Meaning.{Meaning, Shape}
use Rattle.lab_model.specs.declared.micro.Mode.TheVariants.{Draining, Suspended}
use Rattle.lab_model.specs.declared.micro.Order.{Order}
use Rattle.lab_model.specs.declared.micro.Order.TheVariants.{Create, Load, Clear, Begin, Drained, Swap, Remove}
use Rattle.lab_model.specs.ControlEffect.{created, named_version, swapped, with_inactive, with_mode}
use Rattle.lab_model.specs.Lists.{change}
use Rattle.lab_model.specs.Scenario.{Scenario, version_of}
use Rattle.lab_model.specs.State.{Slot}
use Rattle.lab_model.specs.Tables.{Table, image}

-- the devices by number, with tables as no event changes them
abbrev pub Devices : Type 0 → Type 0
Devices S = List (Option (Slot (Table (Shape S))))

-- a device as no event changes its tables
abbrev pub slot_image : {S : Type 0} → Meaning S → Slot (Table S) → Slot (Table (Shape S))
slot_image m slot = record {
  live = option_map (image m) slot.live;
  inactive = option_map (image m) slot.inactive;
  mode = slot.mode;
}

-- all devices as no event changes their tables
abbrev pub devices_image : {S : Type 0} → Meaning S → List (Option (Slot (Table S))) → Devices S
devices_image m devices = map (option_map (slot_image m)) devices

-- a version of a device, as no event changes it
abbrev pub version_image : {S : Type 0} → Meaning S → Scenario S → ℕ → ℕ → Option (Table (Shape S))
version_image m c device version = option_map (image m) (version_of c device version)

-- one step of the walk
abbrev pub walk_order : {S : Type 0} → Meaning S → Scenario S → Devices S → Order → Devices S
walk_order m c devices (Create device version) =
    devices ++ Some (created (option_map (image m) (named_version c device version))) ∷ []
walk_order m c devices (Load device version) =
    change devices device (option_map (with_inactive (version_image m c device version)))
walk_order m c devices (Clear device) = change devices device (option_map (with_inactive None))
walk_order m c devices (Begin device) = change devices device (option_map (with_mode Draining))
walk_order m c devices (Drained device) = change devices device (option_map (with_mode Suspended))
walk_order m c devices (Swap device) = change devices device (option_map swapped)
walk_order m c devices (Remove device) = change devices device (λ entry. None)
walk_order m c devices _ = devices

-- the walk after the first n micro-commands
abbrev pub walk : {S : Type 0} → Meaning S → Scenario S → ℕ → Devices S
walk m c n = fold (λ devices micro. walk_order m c devices micro.order) [] (take n c.micros)
