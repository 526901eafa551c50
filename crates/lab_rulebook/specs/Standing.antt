-- What stands at one place of a script: disks, names, devices, versions (dmsetup(8)).
use Rattle.std.specs.Prelude.{ℕ, ◌==◌, is_some, List, [], ◌∷◌, ◌++◌, Option, Some, None, length, map, if◌then◌else◌}
use Rattle.std.specs.List.{list_any}
use Rattle.std.specs.Option.{option_and_then, option_map, option_map_or}
use Rattle.lab_sector.specs.declared.device.DevNo.{DevNo}
use Rattle.lab_sector.specs.declared.device.DevNo.TheVariants.{Ram, Dm}
use Rattle.lab_target.specs.Meaning.{Meaning, Shape}
use Rattle.lab_model.specs.Scenario.{LogPlan}
use Rattle.lab_model.specs.declared.plan.DiskPlan.{DiskPlan}
use Rattle.lab_model.specs.Tables.{Table, image}
use Rattle.lab_model.specs.Walk.{Devices}
use Rattle.lab_model.specs.declared.phase.Phase.TheVariants.{Before}
use Rattle.lab_model.specs.declared.phase.Phase.{Phase}
use Rattle.lab_model.specs.Slots.{slot_at}
use Rattle.lab_script.specs.Task.{Task, table_asked}
use Rattle.lab_script.specs.Walk.{Names, Walk, after, found_by, loads_after}
use Rattle.lab_rulebook.specs.Parts.{DeviceWord, disk, mapped, named, Parts, part_named}

-- what stands before a command
pub record Standing (S : Type 0) : Type 0 where
  -- the disks that are declared, in order
  pub disks : List DiskPlan
  -- the number of the device that each name stands for, if it stands for one
  pub device_of : Names
  -- the devices by number, with tables as no event changes them
  pub devices : Devices S
  -- by device number: all tables that were loaded so far
  pub versions : List (List (Table S))
  -- before the replay, after it, after the wait
  pub phase : Phase
  -- the logs as the replay binds them; none before
  pub logs : List LogPlan

-- nothing stands
abbrev pub nothing : {S : Type 0} → Standing S
nothing = record {
  disks = [];
  device_of = λ name. None;
  devices = [];
  versions = [];
  phase = Before;
  logs = [];
}

-- the device that a word names, if it stands
abbrev pub device_meant : {S : Type 0} → Standing S → DeviceWord → Option DevNo
device_meant s (disk number) =
    if list_any (λ disk. disk.number == number) s.disks then Some (Ram number) else None
device_meant s (mapped number) =
    if is_some (slot_at s.devices number) then Some (Dm number) else None
device_meant s (named name) = option_map (λ number. Dm number) (s.device_of name)

-- the table of a name as it reads with the names that stand
abbrev pub table_named : {S : Type 0} → Parts S → Standing S → List ℕ → Option (Table S)
table_named parts s name =
    option_and_then (λ part. part.under (device_meant s)) (part_named parts.tables name)

-- the table that a command asks for, as it reads with the names that stand
abbrev pub table_meant : {S : Type 0} → Parts S → Standing S → Task → Option (Table S)
table_meant parts s task = option_and_then (table_named parts s) (table_asked task)

-- what was loaded into a device, with a table more if there is one
abbrev pub with_version : {L : Type 0} → List L → Option L → List L
with_version own held = option_map_or (λ table. own ++ table ∷ []) held own

-- what stands, as the walk that gives micro-commands knows it
abbrev pub walk_of : {S : Type 0} → Standing S → Walk (Table (Shape S))
walk_of s = record { device_of = s.device_of; devices = s.devices; loads = map length s.versions }

-- what stands after a command on names and devices, with the table that it asks for
abbrev pub obeyed : {S : Type 0} → Meaning S → Standing S → Task → Option (Table S) → Standing S
obeyed m s task chosen = record s {
  device_of = (after (walk_of s) task (option_map (image m) chosen)).device_of;
  devices = (after (walk_of s) task (option_map (image m) chosen)).devices;
  versions = loads_after with_version [] s.versions (found_by s.device_of task) task chosen;
}
