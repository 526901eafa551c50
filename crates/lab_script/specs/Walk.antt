-- How the commands of a script become micro-commands: a walk over the names of devices, and over
-- their slots and modes, whatever stands for a table (dmsetup(8), which suspends a running device to
-- swap its table). Devices are numbered from 0 as they are made, and so are the tables of each (this
-- project's own).
use Rattle.std.specs.Prelude.{ℕ, ◌+◌, ◌||◌, if◌then◌else◌, List, [], ◌∷◌, ◌++◌, Option, Some, None, length, slice_get, unwrap_or}
use Rattle.std.specs.Option.{is_some, option_and_then, option_map, option_map_or}
use Rattle.std.specs.Str.{bytes_eq}
use Rattle.lab_model.specs.declared.micro.Micro.{Micro}
use Rattle.lab_model.specs.declared.micro.Order.{Order}
use Rattle.lab_model.specs.declared.micro.Order.TheVariants as orders
use Rattle.lab_model.specs.ControlEffect.{created}
use Rattle.lab_model.specs.Lists.{change}
use Rattle.lab_model.specs.Slots.{slot_at}
use Rattle.lab_model.specs.State.{Slot}
use Rattle.lab_script.specs.Script.{ScriptRow}
use Rattle.lab_script.specs.Slots.{is_suspended, slot_after}
use Rattle.lab_script.specs.Steps.{on_line}
use Rattle.lab_script.specs.Task.{Task, create, load, clear, suspend, resume, remove, message, status, table, sleep, replay, wait, device_asked, on}

-- the number of the device that each name stands for, if it stands for one
abbrev pub Names : Type 0
Names = List ℕ → Option ℕ

-- what a walk knows: the names, the devices by number, none where one is removed, and by number how
-- many tables were ever loaded into each
pub record Walk (L : Type 0) : Type 0 where
  pub device_of : Names
  pub devices : List (Option (Slot L))
  pub loads : List ℕ

-- before the first command
abbrev pub start : {L : Type 0} → Walk L
start = record { device_of = λ name. None; devices = []; loads = [] }

-- a name stands for this device, or for none, and each other name for its own
abbrev pub with_name : Names → List ℕ → Option ℕ → Names
with_name names name device = λ other. if bytes_eq name other then device else names other

-- the names after a command, before which so many devices were made
abbrev pub names_after : Names → ℕ → Task → Names
names_after names made (create name chosen) = with_name names name (Some made)
names_after names made (on name remove) = with_name names name None
names_after names made _ = names

-- a list with f at the item of a number, if one is told
abbrev pub change_found : {X : Type 0} → List X → Option ℕ → (X → X) → List X
change_found items found f = option_map_or (λ number. change items number f) found items

-- the devices after a command for the device that is found, with the table that it asks for: a create
-- makes the next one, which runs
abbrev pub devices_after : {L : Type 0} → List (Option (Slot L)) → Option ℕ → Task → Option L
    → List (Option (Slot L))
devices_after devices found (create name chosen) held = devices ++ Some (created held) ∷ []
devices_after devices found (on name remove) held = change_found devices found (λ entry. None)
devices_after devices found task held =
    change_found devices found (option_map (slot_after task held))

-- what was loaded into each device after a command, as `add` puts a table to what was loaded before
abbrev pub loads_after : {X L : Type 0} → (X → Option L → X) → X → List X → Option ℕ → Task
    → Option L → List X
loads_after add none loads found (create name chosen) held = loads ++ add none held ∷ []
loads_after add none loads found (on name (load chosen)) held =
    change_found loads found (λ own. add own held)
loads_after add none loads found _ held = loads

-- a count with a table more, if there is one
abbrev pub counted : {L : Type 0} → ℕ → Option L → ℕ
counted count held = option_map_or (λ table. count + 1) held count

-- the number of the device that a command is for, if its name stands for one
abbrev pub found_by : Names → Task → Option ℕ
found_by names task = option_and_then names (device_asked task)

-- the walk after a command, with the table that it asks for
abbrev pub after : {L : Type 0} → Walk L → Task → Option L → Walk L
after w task held = record {
  device_of = names_after w.device_of (length w.devices) task;
  devices = devices_after w.devices (found_by w.device_of task) task held;
  loads = loads_after counted 0 w.loads (found_by w.device_of task) task held;
}

-- what a walk knows of one device: its number, how many tables were loaded into it, and its slots
pub record WalkDevice (L : Type 0) : Type 0 where
  pub number : ℕ
  pub versions : ℕ
  pub slot : Slot L

-- the device of a number, if it stands
abbrev pub known_at : {L : Type 0} → Walk L → ℕ → Option (WalkDevice L)
known_at w number = option_map (λ slot.
    record { number = number; versions = unwrap_or (slice_get w.loads number) 0; slot = slot })
    (slot_at w.devices number)

-- a running device is suspended; a suspended one stays so
abbrev pub suspend_steps : {L : Type 0} → WalkDevice L → List Order
suspend_steps d = if is_suspended d.slot.mode then []
    else orders.Begin d.number ∷ orders.Drained d.number ∷ []

-- a suspended device runs again; a running one with an inactive table is suspended for the swap
abbrev pub resume_steps : {L : Type 0} → WalkDevice L → List Order
resume_steps d = if is_suspended d.slot.mode || is_some d.slot.inactive
    then suspend_steps d ++ orders.Swap d.number ∷ [] else []

-- the steps of a command for this device
abbrev pub orders_on : {L : Type 0} → Task → WalkDevice L → List Order
orders_on (on name (load chosen)) d = orders.Load d.number d.versions ∷ []
orders_on (on name clear) d = orders.Clear d.number ∷ []
orders_on (on name suspend) d = suspend_steps d
orders_on (on name resume) d = resume_steps d
orders_on (on name remove) d = orders.Remove d.number ∷ []
orders_on (on name (message sector text)) d = orders.Message d.number sector text ∷ []
orders_on (on name status) d = orders.Status d.number ∷ []
orders_on (on name table) d = orders.Table d.number ∷ []
orders_on _ d = []

-- the steps of a command, for the device that it is for, if that stands, where so many were made
abbrev pub orders_for : {L : Type 0} → Task → Option (WalkDevice L) → ℕ → List Order
orders_for (create name chosen) device made = orders.Create made (option_map (λ _. 0) chosen) ∷ []
orders_for (sleep time) device made = orders.Sleep time ∷ []
orders_for replay device made = orders.Replay ∷ []
orders_for wait device made = orders.Wait ∷ []
orders_for task device made = option_map_or (orders_on task) device []

-- the device that a command is for, if its name stands for one
abbrev pub device_for : {L : Type 0} → Walk L → Task → Option (WalkDevice L)
device_for w task = option_and_then (known_at w) (found_by w.device_of task)

-- the steps of a command
abbrev pub steps_of : {L : Type 0} → Walk L → Task → List Order
steps_of w task = orders_for task (device_for w task) (length w.devices)

-- the number of the version that a command loads, where each table is known by its number alone
abbrev pub version_for : Walk ℕ → Task → Option ℕ
version_for w (create name chosen) = option_map (λ _. 0) chosen
version_for w (on name (load chosen)) = Some (option_map_or
    (λ number. unwrap_or (slice_get w.loads number) 0) (w.device_of name) 0)
version_for w _ = None

-- the micro-commands of some rows, from this point of the walk on
abbrev pub micros_from : Walk ℕ → List ScriptRow → List Micro
micros_from w [] = []
micros_from w (row ∷ rows) = on_line row.number (steps_of w row.task)
    ++ micros_from (after w row.task (version_for w row.task)) rows

-- the micro-commands of a script
abbrev pub micros_of : List ScriptRow → List Micro
micros_of rows = micros_from start rows
