-- Words that the examples share: disks, tables, scripts, logs and whole scenarios (this project's
-- own).
use Prim.Native.String.{String}
use Rattle.std.specs.Prelude.{ℕ, ◌+◌, List, [], ◌∷◌, Some, codes}
use Rattle.lab_sector.specs.declared.device.DevNo.{DevNo}
use Rattle.lab_sector.specs.declared.device.DevNo.TheVariants.{Ram, Dm}
use Rattle.lab_target.specs.declared.verdict.Ref.{Ref}
use Rattle.lab_delay.specs.Delay.{Group}
use Rattle.lab_dust.specs.Dust.{DustLine, opening_line}
use Rattle.lab_model.specs.declared.entry.Action.{Action}
use Rattle.lab_model.specs.declared.entry.Entry.{Entry}
use Rattle.lab_model.specs.declared.entry.Entry.TheVariants.{Add, Open, Operate, Wait}
use Rattle.lab_model.specs.declared.micro.Micro.{Micro}
use Rattle.lab_model.specs.declared.micro.Order.{Order}
use Rattle.lab_model.specs.declared.micro.Order.TheVariants.{Create, Begin, Drained, Swap, Message}
use Rattle.lab_model.specs.declared.micro.Order.TheVariants.{Table as TableOf, Replay}
use Rattle.lab_model.specs.declared.table_line.TableLine.{TableLine}
use Rattle.lab_model.specs.Scenario.{Scenario, LogPlan}
use Rattle.lab_model.specs.declared.plan.DiskPlan.{DiskPlan}
use Rattle.lab_model.specs.declared.plan.LogLine.{LogLine}
use Rattle.lab_model.specs.Tables.{Table}

-- a disk of a number and a size in sectors
abbrev pub disk : ℕ → ℕ → DiskPlan
disk number size = record { number = number; size = size }

-- the sectors of a device from this one on, as in `/dev/ram0 4`
abbrev pub to : DevNo → ℕ → Ref
to device first = record { dev = device; first = first }

-- where a delay line's bios go, and for how many milliseconds it holds them
abbrev pub group : Ref → ℕ → Group
group reference delay = record { reference = reference; delay = delay }

-- the groups of a delay line
abbrev pub Groups : Type 0
Groups = List Group

-- `delay DEVICE FIRST DELAY`: all kinds of bios are held, and go to the same sectors
abbrev pub delayed : Ref → ℕ → Groups
delayed reference delay = group reference delay ∷ []

-- a line of a table: its first sector, its length in sectors, and its target
abbrev pub row : {S : Type 0} → ℕ → ℕ → S → TableLine S
row start len target = record { start = start; len = len; target = target }

-- `START LEN dust /dev/ram0 FIRST 1024`
abbrev pub dust : ℕ → ℕ → ℕ → TableLine DustLine
dust start len first = row start len (opening_line (to (Ram 0) first) 1024 len)

-- a table of one line, of so many sectors
abbrev pub one_row : {S : Type 0} → ℕ → S → Table S
one_row len target = row 0 len target ∷ []

-- a step of the script, on a line
abbrev pub step : ℕ → Order → Micro
step line order = record { line = line; order = order }

-- on a line of the script a device is created, with the first of its tables
abbrev pub create : ℕ → ℕ → Micro
create line device = step line (Create device (Some 0))

-- on a line of the script the lines of a device's live table are told
abbrev pub tell_table : ℕ → ℕ → Micro
tell_table line device = step line (TableOf device)

-- on a line of the script a sector of device 0 gets a message
abbrev pub message : ℕ → ℕ → String → Micro
message line sector text = step line (Message 0 sector (codes text))

-- the steps in which device 0, which runs, is suspended and resumed on one line of the script
abbrev pub resume : ℕ → List Micro
resume line = step line (Begin 0) ∷ step line (Drained 0) ∷ step line (Swap 0) ∷ []

-- an operation on some sectors
abbrev pub operate : Action → ℕ → ℕ → Entry
operate action first len = Operate action (record { first = first; len = len })

-- a wait of so many microseconds
abbrev pub pause : ℕ → Entry
pause time = Wait time

-- the lines of a log on one device, from this line on
abbrev pub lines_from : DevNo → ℕ → List Entry → List LogLine
lines_from device line [] = []
lines_from device line (entry ∷ entries) =
    record { number = line; device = Some device; entry = entry }
    ∷ lines_from device (line + 1) entries

-- a log of these lines
abbrev pub log_of : List LogLine → LogPlan
log_of lines = record { name = codes "a"; lines = lines }

-- a log on one device: after its header it adds and opens it, and from line 4 on it does these
abbrev pub log_on : DevNo → List Entry → LogPlan
log_on device entries = log_of (lines_from device 2 (Add ∷ Open ∷ entries))

-- disk 0 of so many sectors, device 0 of these tables, a script and logs
abbrev pub scripted : {S : Type 0} → ℕ → List (Table S) → List Micro → List LogPlan → Scenario S
scripted size tables script logs =
    record { disks = disk 0 size ∷ []; versions = tables ∷ []; micros = script; logs = logs }

-- disk 0 of so many sectors, device 0 of this table, and logs: the script creates the device and
-- starts the logs
abbrev pub replayed : {S : Type 0} → ℕ → Table S → List LogPlan → Scenario S
replayed size table logs = scripted size (table ∷ []) (create 2 0 ∷ step 3 Replay ∷ []) logs

-- disk 0 of so many sectors, device 0 of the lower table, device 1 of the upper one, a script that
-- creates both, starts the logs and goes on with these steps, and a log on device 1
abbrev pub stacked : {S : Type 0} → ℕ → Table S → Table S → List Micro → List Entry → Scenario S
stacked size low top script entries = record {
  disks = disk 0 size ∷ [];
  versions = (low ∷ []) ∷ (top ∷ []) ∷ [];
  micros = create 2 0 ∷ create 3 1 ∷ step 4 Replay ∷ script;
  logs = log_on (Dm 1) entries ∷ [];
}
