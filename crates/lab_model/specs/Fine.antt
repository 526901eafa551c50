-- What a scenario needs so that no run of it goes wrong or stops: facts of its script, tables and
-- logs, followed along the script (this project's own).
use Rattle.std.specs.Prelude.{◌≡◌, ℕ, Bool, true, false, List, [], ◌∷◌, option_and_then}
use Rattle.std.specs.Prelude.{Option, Some, None, length, slice_get}
use Rattle.std.specs.Option.{option_map_or}
use Rattle.lab_sector.specs.declared.device.DevNo.{DevNo}
use Rattle.lab_sector.specs.declared.device.DevNo.TheVariants.{Ram, Dm}
use Rattle.lab_target.specs.Meaning.{Meaning, Shape}
use Rattle.lab_text.specs.Words.{words_of}
use Rattle.lab_model.specs.declared.entry.Entry.{Entry}
use Rattle.lab_model.specs.declared.entry.Entry.TheVariants.{Wait as WaitTime}
use Rattle.lab_model.specs.declared.entry.Entry.TheVariants.{Operate}
use Rattle.lab_model.specs.declared.micro.Micro.{Micro}
use Rattle.lab_model.specs.declared.micro.Mode.{Mode}
use Rattle.lab_model.specs.declared.micro.Mode.TheVariants.{Running, Draining, Suspended}
use Rattle.lab_model.specs.declared.micro.Order.{Order}
use Rattle.lab_model.specs.declared.micro.Order.TheVariants.{Create, Load, Clear, Begin, Drained}
use Rattle.lab_model.specs.declared.micro.Order.TheVariants.{Swap, Remove, Message, Status}
use Rattle.lab_model.specs.declared.micro.Order.TheVariants.{Table as TableOf, Sleep, Replay}
use Rattle.lab_model.specs.declared.micro.Order.TheVariants.{Wait}
use Rattle.lab_model.specs.declared.table_line.TableLine.{TableLine}
use Rattle.lab_model.specs.declared.phase.Phase.{Phase}
use Rattle.lab_model.specs.declared.phase.Phase.TheVariants.{Before, Replayed, Waited}
use Rattle.lab_model.specs.Files.{Files, allows, files_after, no_files}
use Rattle.lab_model.specs.LogEffect.{kind_of}
use Rattle.lab_model.specs.Below.{HasNoCycle, devices_under, Below}
use Rattle.lab_model.specs.Scenario.{HasNamed, HasVersion, LogPlan, Scenario}
use Rattle.lab_model.specs.declared.plan.LogLine.{LogLine}
use Rattle.lab_model.specs.State.{Slot}
use Rattle.lab_model.specs.Tables.{Table, line_at, end_of}
use Rattle.lab_model.specs.Walk.{Devices, walk_order}
use Rattle.lab_model.specs.CreatesInOrder.{CreatesInOrder}
use Rattle.lab_model.specs.Sizes.{DevicesStand, Reaches, size_at}
use Rattle.lab_model.specs.Slots.{slot_at}

-- the phase after a step
abbrev pub phase_after : Phase → Order → Phase
phase_after phase Replay = Replayed
phase_after phase Wait = Waited
phase_after phase _ = phase

-- whether the logs have started
abbrev pub is_started : Phase → Bool
is_started Before = false
is_started Replayed = true
is_started Waited = true

-- a device has a live table, or is a disk
abbrev pub HasTable : {S : Type 0} → Devices S → DevNo → Type 0
HasTable devices (Ram number) = Unit {0}
HasTable {S} devices (Dm number) = (slot : Slot (Table (Shape S))) × (table : Table (Shape S))
    × (slot_at devices number ≡ Some slot) × (slot.live ≡ Some table)

-- where the sectors of a log line's operation end
abbrev pub entry_end : Entry → ℕ
entry_end (Operate action span) = end_of (kind_of action) span
entry_end _ = 0

-- a log line finds its device, with a table, and its sectors are inside
abbrev pub LineOn : {S : Type 0} → Scenario S → Devices S → Option DevNo → Entry → Type 0
LineOn c devices device (WaitTime time) = Unit {0}
LineOn c devices None entry = ⊥
LineOn c devices (Some device) entry =
    Reaches (size_at c.disks devices device) (entry_end entry) × HasTable devices device

-- all lines of all logs find their devices at this place of the walk
abbrev pub LinesStand : {S : Type 0} → Scenario S → Devices S → Type 0
LinesStand {S} c devices = (number place : ℕ) (plan : LogPlan) (line : LogLine)
    → slice_get c.logs number ≡ Some plan → slice_get plan.lines place ≡ Some line
    → LineOn c devices line.device line.entry

-- log lines count from the replay to the wait
abbrev pub LinesStandIn : {S : Type 0} → Scenario S → Devices S → Phase → Type 0
LinesStandIn c devices Replayed = LinesStand c devices
LinesStandIn c devices _ = Unit {0}

-- the devices that a live table refers to
abbrev pub under_live : {S : Type 0} → Option (Table (Shape S)) → List DevNo
under_live live = option_map_or devices_under live []

-- the devices that a mapped device's live table refers to
abbrev pub live_under : {S : Type 0} → Devices S → ℕ → List DevNo
live_under slots device = under_live (option_and_then (λ slot. slot.live) (slot_at slots device))

-- a mapped device stands, in this mode
abbrev pub InMode : {S : Type 0} → Devices S → ℕ → Mode → Type 0
InMode {S} devices device mode = (slot : Slot (Table (Shape S)))
    × (slot_at devices device ≡ Some slot) × (slot.mode ≡ mode)

-- all mapped devices below one, through live tables, run
abbrev pub BelowRuns : {S : Type 0} → Devices S → ℕ → Type 0
BelowRuns devices device = (below : ℕ) → Below (live_under devices) device below
    → InMode devices below Running

-- no device but those for which a test passes is draining
abbrev pub OthersRest : {S : Type 0} → Devices S → (ℕ → Type 0) → Type 0
OthersRest {S} devices Except = (number : ℕ) (slot : Slot (Table (Shape S)))
    → slot_at devices number ≡ Some slot → slot.mode ≡ Draining → Except number

-- all mapped devices run
abbrev pub AllRun : {S : Type 0} → Devices S → Type 0
AllRun {S} devices = (number : ℕ) (slot : Slot (Table (Shape S)))
    → slot_at devices number ≡ Some slot → slot.mode ≡ Running

-- a mapped device stands
abbrev pub IsThere : {S : Type 0} → Devices S → ℕ → Type 0
IsThere {S} devices device =
    (slot : Slot (Table (Shape S))) × (slot_at devices device ≡ Some slot)

-- the line of a table that has a sector takes a message
abbrev pub TakesAt : {S : Type 0} → Table (Shape S) → ℕ → List (List ℕ) → Type 0
TakesAt {S} table sector words = (number : ℕ) × (line : TableLine (Shape S))
    × (line_at table sector ≡ Some number) × (slice_get table number ≡ Some line)
    × (line.target.takes words ≡ true)

-- a device's live table takes a message at a sector
abbrev pub TakesMessage : {S : Type 0} → Devices S → ℕ → ℕ → List (List ℕ) → Type 0
TakesMessage {S} devices device sector words = (slot : Slot (Table (Shape S)))
    × (table : Table (Shape S)) × (slot_at devices device ≡ Some slot)
    × (slot.live ≡ Some table) × TakesAt table sector words

-- the step after this one is the device's Drained
abbrev pub IsDrainedNext : ℕ → List Micro → Type 0
IsDrainedNext device [] = ⊥
IsDrainedNext device (micro ∷ micros) = micro.order ≡ Drained device

-- a step may come at this place of the walk, before these
abbrev pub OrderFine : {S : Type 0} → Scenario S → Devices S → Phase → Order → List Micro → Type 0
OrderFine c devices phase (Create device version) more =
    (device ≡ length devices) × HasNamed c device version
OrderFine c devices phase (Load device version) more =
    IsThere devices device × HasVersion c device version
OrderFine c devices phase (Clear device) more = IsThere devices device
OrderFine c devices phase (Begin device) more =
    InMode devices device Running × IsDrainedNext device more
OrderFine c devices phase (Drained device) more =
    InMode devices device Draining × BelowRuns devices device
OrderFine c devices phase (Swap device) more = InMode devices device Suspended
OrderFine c devices phase (Remove device) more = IsThere devices device
OrderFine c devices phase (Message device sector text) more =
    TakesMessage devices device sector (words_of text)
OrderFine c devices phase (Status device) more = HasTable devices (Dm device)
OrderFine c devices phase (TableOf device) more = HasTable devices (Dm device)
OrderFine c devices phase (Sleep time) more = Unit {0}
OrderFine c devices phase Replay more = phase ≡ Before
OrderFine c devices phase Wait more = (phase ≡ Replayed) × AllRun devices

-- the device that a step drains
abbrev pub Drains : Order → ℕ → Type 0
Drains (Drained device) number = number ≡ device
Drains _ number = ⊥

-- the script may end so: its wait is done, or it has replayed and all devices run
abbrev pub EndFine : {S : Type 0} → Devices S → Phase → Type 0
EndFine devices Before = ⊥
EndFine devices Replayed = AllRun devices
EndFine devices Waited = Unit {0}

-- what a place of the walk has to keep, whatever step comes there: the tables stand, the log lines
-- find their devices, and no device drains but the one that the step says
pub record PlaceFine {S : Type 0} (c : Scenario S) (devices : Devices S) (phase : Phase)
    (Except : ℕ → Type 0) : Type 0 where
  pub tables : DevicesStand c devices
  pub lines : LinesStandIn c devices phase
  pub rest : OthersRest devices Except

-- the rest of a script may come, from this place of the walk on
abbrev pub FineFrom : {S : Type 0} → Meaning S → Scenario S → Phase → Devices S → List Micro
    → Type 0
FineFrom m c phase devices [] =
    PlaceFine c devices phase (λ number. ⊥) × EndFine devices phase
FineFrom m c phase devices (micro ∷ micros) =
    PlaceFine c devices phase (Drains micro.order) × OrderFine c devices phase micro.order micros
    × FineFrom m c (phase_after phase micro.order) (walk_order m c devices micro.order) micros

-- a line may come with these files
abbrev pub FileFine : Files → Option DevNo → Entry → Type 0
FileFine files None entry = Unit {0}
FileFine files (Some device) entry = allows files device entry ≡ true

-- the rest of a log's lines may come, where its files are these
abbrev pub FilesFine : Files → List LogLine → Type 0
FilesFine files [] = Unit {0}
FilesFine files (line ∷ lines) = FileFine files line.device line.entry
    × FilesFine (files_after files line.entry line.device) lines

-- a scenario whose runs are fine: no device lies below itself, creates count from 0, each log's
-- files are added and open where they are used, and the script may come from its start on
pub record Fine {S : Type 0} (m : Meaning S) (c : Scenario S) : Type 0 where
  pub acyclic : HasNoCycle m c
  pub creates : CreatesInOrder c
  pub files : (number : ℕ) (plan : LogPlan) → slice_get c.logs number ≡ Some plan
      → FilesFine no_files plan.lines
  pub script : FineFrom m c Before [] c.micros
