-- The logs that may take their next line, and those for which an event can change that (this
-- project's own).
use Rattle.std.specs.Prelude.{◌≡◌, ℕ, suc, ◌<◌, ◌≤◌, List, Option, Some, None, filter, length, map, slice_get}
use Rattle.std.specs.List.{range_with_len}
use Rattle.lab_target.specs.Meaning.{Meaning}
use Rattle.lab_index.specs.Numbers.{Marks, has}
use Rattle.lab_model.specs.declared.event.Event.{Event}
use Rattle.lab_model.specs.declared.event.Event.TheVariants.{Line, Map, Serve, Release, Finish, Control, Clock}
use Rattle.lab_model.specs.declared.micro.Micro.{Micro}
use Rattle.lab_model.specs.declared.micro.Order.{Order}
use Rattle.lab_model.specs.declared.micro.Order.TheVariants.{Replay}
use Rattle.lab_model.specs.Bios.{Bio}
use Rattle.lab_model.specs.declared.parent.Parent.{Parent}
use Rattle.lab_model.specs.declared.parent.Parent.TheVariants.{FromLog, FromBio}
use Rattle.lab_model.specs.Guard.{is_enabled}
use Rattle.lab_model.specs.Lists.{numbered}
use Rattle.lab_model.specs.Scenario.{Scenario}
use Rattle.lab_model.specs.State.{LogState, State, bio_of}
use Rattle.lab_core.specs.declared.free_logs.TouchedLogs.{TouchedLogs}
use Rattle.lab_core.specs.declared.free_logs.TouchedLogs.TheVariants.{NoLog, OneLog, LogsSince, AllLogs}
use Rattle.lab_core.specs.Running.{IsRunning, Running}

-- the events of the logs that may come next
abbrev pub line_events : {S : Type 0} → Scenario S → State S → List Event
line_events c s =
    filter (is_enabled c s) (map (λ log. Line log) (range_with_len 1 (length c.logs)))

-- just the logs that may take their next line are marked; the first mark is that of the log 1
abbrev pub IsFree : {S : Type 0} → Scenario S → State S → Marks → Type 0
IsFree c s free = (place : ℕ) → has free place ≡ is_enabled c s (Line (suc place))

-- the log that is told of an answer to a parent
abbrev pub parent_log : Parent → TouchedLogs
parent_log (FromLog log line action) = OneLog log
parent_log (FromBio number piece) = NoLog

-- the log that is told of a bio's answer
abbrev pub bio_log : Option Bio → TouchedLogs
bio_log None = NoLog
bio_log (Some bio) = parent_log bio.parent

-- the log that is told of the answer of the bio of a number
abbrev pub told_log : {S : Type 0} → State S → ℕ → TouchedLogs
told_log s number = bio_log (bio_of s number)

-- all logs, where a step of the script starts them; no other step concerns one
abbrev pub order_logs : Order → TouchedLogs
order_logs Replay = AllLogs
order_logs _ = NoLog

-- the same of a step that need not be there
abbrev pub step_logs : Option Micro → TouchedLogs
step_logs None = NoLog
step_logs (Some micro) = order_logs micro.order

-- the logs that an event touches: the one whose line is taken, the one that is told of an answer,
-- those to whose moment the clock goes on, and all where the script starts them
abbrev pub touched_logs : {S : Type 0} → Scenario S → State S → Event → TouchedLogs
touched_logs c s (Line log) = OneLog log
touched_logs c s (Map number) = NoLog
touched_logs c s (Serve number) = told_log s number
touched_logs c s (Release number) = NoLog
touched_logs c s (Finish number) = told_log s number
touched_logs c s Control = step_logs (slice_get c.micros s.done)
touched_logs c s Clock = LogsSince s.clock

-- a log's moment is later than one and has come by another
abbrev pub HasComeSince : ℕ → ℕ → Option LogState → Type 0
HasComeSince since now None = ⊥
HasComeSince since now (Some log) = (since < log.moment) × (log.moment ≤ now)

-- the log of a number is one of those that were touched, by the state after the event
abbrev pub IsTouchedLog : {S : Type 0} → State S → TouchedLogs → ℕ → Type 0
IsTouchedLog s NoLog number = ⊥
IsTouchedLog s (OneLog log) number = number ≡ log
IsTouchedLog s (LogsSince moment) number = HasComeSince moment s.clock (numbered s.logs number)
IsTouchedLog s AllLogs number = Unit {0}

-- the marks of the logs that were touched were set anew, by what may come now, and no others
pub record IsUpdated {S : Type 0} (c : Scenario S) (s : State S) (touches : TouchedLogs)
    (old new : Marks) : Type 0 where
  pub anew : (place : ℕ) → place < length c.logs → IsTouchedLog s touches (suc place)
      → has new place ≡ is_enabled c s (Line (suc place))
  pub others : (place : ℕ) → (IsTouchedLog s touches (suc place) → ⊥) → has new place ≡ has old place
  pub past : (place : ℕ) → length c.logs ≤ place → has new place ≡ has old place

-- what holds inside a laboratory: its events so far are a run of its scenario, and just the logs
-- that may take their next line are marked
pub record KeepsInside {S : Type 0} (m : Meaning S) (lab : Running S) (free : Marks) : Type 0 where
  pub running : IsRunning m lab
  pub marked : IsFree lab.scenario lab.state free
