-- When an event may come (this project's own; draining and suspension as dmsetup(8) says).
use Rattle.std.specs.Prelude.{ℕ, ◌==◌, ◌&&◌, ◌||◌, Bool, true, false, not, nat_le, nat_lt, min, filter, List, [], ◌∷◌, ◌++◌, Option, Some, None, slice_get, map, length, if◌then◌else◌}
use Rattle.std.specs.Option.{option_map_or}
use Rattle.std.specs.List.{filter_map, list_any, list_all, enumerate_from, reduce, zip}
use Rattle.lab_sector.specs.declared.device.DevNo.{DevNo}
use Rattle.lab_sector.specs.declared.device.DevNo.TheVariants.{Ram, Dm}
use Rattle.lab_model.specs.declared.event.Event.{Event}
use Rattle.lab_model.specs.declared.event.Event.TheVariants.{Line, Map, Serve, Release, Finish, Control, Clock}
use Rattle.lab_model.specs.declared.micro.Micro.{Micro}
use Rattle.lab_model.specs.declared.micro.Mode.{Mode}
use Rattle.lab_model.specs.declared.micro.Mode.TheVariants.{Running}
use Rattle.lab_model.specs.declared.micro.Order.{Order}
use Rattle.lab_model.specs.declared.micro.Order.TheVariants.{Drained, Wait}
use Rattle.lab_model.specs.Bios.{Bio, Stage, Entering, Held, InFlight}
use Rattle.lab_model.specs.declared.parent.Parent.{Parent}
use Rattle.lab_model.specs.declared.parent.Parent.TheVariants.{FromLog, FromBio}
use Rattle.lab_model.specs.Lists.{numbered}
use Rattle.lab_model.specs.Scenario.{Scenario, LogPlan}
use Rattle.lab_model.specs.Slots.{slot_at}
use Rattle.lab_model.specs.State.{State, Slot, LogState, bio_of, living}

-- whether a parent is the log of this number
abbrev pub is_log : ℕ → Parent → Bool
is_log log (FromLog number line action) = log == number
is_log log (FromBio number piece) = false

-- whether a parent is the bio of this number
abbrev pub is_bio : ℕ → Parent → Bool
is_bio bio (FromLog number line action) = false
is_bio bio (FromBio number piece) = bio == number

-- whether a bio is in flight at the mapped device of this number
abbrev pub flies_at : ℕ → DevNo → Stage → Bool
flies_at device (Dm number) (InFlight failed answered) = device == number
flies_at device _ _ = false

-- whether some living bio was made for the log of this number
abbrev pub is_busy : {S : Type 0} → State S → ℕ → Bool
is_busy s log = list_any (λ bio. is_log log bio.parent) (living s)

-- whether a living bio was made for a piece of the bio of this number
abbrev pub has_child : {S : Type 0} → State S → ℕ → Bool
has_child s number = list_any (λ bio. is_bio number bio.parent) (living s)

-- whether a bio is in flight at the device of this number
abbrev pub has_flight : {S : Type 0} → State S → ℕ → Bool
has_flight s device = list_any (λ bio. flies_at device bio.device bio.stage) (living s)

-- whether a device in this mode runs
abbrev pub runs : Mode → Bool
runs Running = true
runs _ = false

-- whether a device is there and runs
abbrev pub slot_runs : {L : Type 0} → Option (Slot L) → Bool
slot_runs found = option_map_or (λ slot. runs slot.mode) found false

-- whether a log has a line left
abbrev pub has_line : LogPlan → LogState → Bool
has_line plan log = nat_lt log.taken (length plan.lines)

-- whether a moment has come
abbrev pub has_come : {S : Type 0} → State S → ℕ → Bool
has_come s moment = nat_le moment s.clock

-- a log may take its next line
abbrev pub line_may : {S : Type 0} → State S → ℕ → Option LogPlan → Option LogState → Bool
line_may s number (Some plan) (Some log) =
    s.started && has_line plan log && not (is_busy s number) && has_come s log.moment
line_may s number _ _ = false

-- a log has ended: it has started, no line is left, no operation is under way, and its moment
-- has come
abbrev pub log_ended : {S : Type 0} → State S → ℕ → LogPlan → LogState → Bool
log_ended s number plan log =
    s.started && not (has_line plan log) && not (is_busy s number) && has_come s log.moment

-- all logs have ended
abbrev pub logs_ended : {S : Type 0} → Scenario S → State S → Bool
logs_ended c s = list_all (λ entry. log_ended s entry.0 entry.1.0 entry.1.1)
    (enumerate_from 1 (zip c.logs s.logs))

-- the script has ended: no micro-command is left, and its moment has come
abbrev pub script_ended : {S : Type 0} → Scenario S → State S → Bool
script_ended c s = nat_le (length c.micros) s.done && has_come s s.moment

-- all is done: logs and script have ended, and no bio lives
abbrev pub is_done : {S : Type 0} → Scenario S → State S → Bool
is_done c s = script_ended c s && logs_ended c s && (length (living s) == 0)

-- a step of the script waits for nothing: Drained for bios in flight at its device, Wait for
-- the logs
abbrev pub order_may : {S : Type 0} → Scenario S → State S → Order → Bool
order_may c s (Drained device) = not (has_flight s device)
order_may c s Wait = logs_ended c s
order_may c s _ = true

-- the next micro-command may be done: there is one, the script's moment has come, and it waits
-- for nothing
abbrev pub control_may : {S : Type 0} → Scenario S → State S → Option Micro → Bool
control_may c s None = false
control_may c s (Some micro) = has_come s s.moment && order_may c s micro.order

-- the moment of a held bio
abbrev pub due_of : Stage → Option ℕ
due_of (Held due holder) = Some due
due_of _ = None

-- the moments that stand: the script's, those of logs that have started, and those of held bios
abbrev pub moments : {S : Type 0} → State S → List ℕ
moments s = s.moment ∷ (if s.started then map (λ log. log.moment) s.logs else [])
    ++ filter_map (λ bio. due_of bio.stage) (living s)

-- the least of them that lies ahead
abbrev pub next_moment : {S : Type 0} → State S → Option ℕ
next_moment s = reduce min (filter (nat_lt s.clock) (moments s))

-- an entering bio is judged by its mapped device where that runs
abbrev pub bio_maps : {S : Type 0} → State S → DevNo → Stage → Bool
bio_maps s (Dm device) Entering = slot_runs (slot_at s.devices device)
bio_maps s _ _ = false

-- an entering bio is served by a disk
abbrev pub bio_serves : DevNo → Stage → Bool
bio_serves (Ram number) Entering = true
bio_serves _ _ = false

-- a held bio goes on when it is due, or when its holder isn't running
abbrev pub bio_releases : {S : Type 0} → State S → Stage → Bool
bio_releases s (Held due holder) = has_come s due || not (slot_runs (slot_at s.devices holder))
bio_releases s _ = false

-- a bio in flight is answered when it has no living child
abbrev pub bio_finishes : {S : Type 0} → State S → ℕ → Stage → Bool
bio_finishes s number (InFlight failed answered) = not (has_child s number)
bio_finishes s number _ = false

-- a test of the living bio of a number; there is none otherwise
abbrev pub bio_may : Option Bio → (Bio → Bool) → Bool
bio_may found test = option_map_or test found false

-- the event may come next
abbrev pub is_enabled : {S : Type 0} → Scenario S → State S → Event → Bool
is_enabled c s (Line log) = line_may s log (numbered c.logs log) (numbered s.logs log)
is_enabled c s (Map number) = bio_may (bio_of s number) (λ bio. bio_maps s bio.device bio.stage)
is_enabled c s (Serve number) = bio_may (bio_of s number) (λ bio. bio_serves bio.device bio.stage)
is_enabled c s (Release number) = bio_may (bio_of s number) (λ bio. bio_releases s bio.stage)
is_enabled c s (Finish number) = bio_may (bio_of s number) (λ bio. bio_finishes s number bio.stage)
is_enabled c s Control = control_may c s (slice_get c.micros s.done)
is_enabled c s Clock = list_any (λ moment. nat_lt s.clock moment) (moments s)
