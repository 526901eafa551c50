-- In what order a log is answered (this project's own).
use Rattle.std.specs.Prelude.{◌≡◌, ℕ, List, ◌++◌, Option, Some, None, is_some, length, map, option_to_list, take}
use Rattle.std.specs.List.{filter_map}
use Rattle.lab_target.specs.Meaning.{Meaning}
use Rattle.lab_model.specs.declared.entry.Action.{Action}
use Rattle.lab_model.specs.declared.entry.Entry.{Entry}
use Rattle.lab_model.specs.declared.entry.Entry.TheVariants.{Add, Open, Close, Wait, Operate}
use Rattle.lab_model.specs.declared.event.Event.{Event}
use Rattle.lab_model.specs.Effect.{IsComplete, IsRun}
use Rattle.lab_model.specs.Guard.{is_busy}
use Rattle.lab_model.specs.Lists.{numbered}
use Rattle.lab_model.specs.Scenario.{Scenario, LogPlan}
use Rattle.lab_model.specs.declared.plan.LogLine.{LogLine}
use Rattle.lab_model.specs.State.{State, LogState}

-- an operation of a log: the number of its line, and what it asks for
pub record Operation : Type 0 where
  pub line : ℕ
  pub action : Action

-- the operation of a line of this number, if it is one
abbrev pub operation_of : ℕ → Entry → Option Operation
operation_of number Add = None
operation_of number Open = None
operation_of number Close = None
operation_of number (Wait time) = None
operation_of number (Operate action span) = Some (record { line = number; action = action })

-- the operations among some lines, in order
abbrev pub operations : List LogLine → List Operation
operations lines = filter_map (λ line. operation_of line.number line.entry) lines

-- the operations that a log has answers to, in the order of the answers
abbrev pub answered_operations : LogState → List Operation
answered_operations log =
    map (λ answer. record { line = answer.line; action = answer.action }) log.answers

-- a log's answers are to the operations among the lines that it has taken, one to each, in line
-- order; only the last has none yet, where a bio that was made for the log lives
pub record AnsweredSoFar {S : Type 0} (s : State S) (number : ℕ) (plan : LogPlan)
    (log : LogState) : Type 0 where
  pub under_way : Option Operation
  pub order : answered_operations log ++ option_to_list under_way
      ≡ operations (take log.taken plan.lines)
  pub lives : is_some under_way ≡ is_busy s number

-- in any run each log of the scenario stands, and no other
abbrev pub LogsStand : {S : Type 0} → Meaning S → Type 0
LogsStand {S} m = (c : Scenario S) (events : List Event) (s : State S)
    → IsRun m c events s → length s.logs ≡ length c.logs

-- in any run each log's answers are so
abbrev pub AnsweredInLineOrder : {S : Type 0} → Meaning S → Type 0
AnsweredInLineOrder {S} m = (c : Scenario S) (events : List Event) (s : State S)
    → IsRun m c events s → (number : ℕ) (plan : LogPlan) (log : LogState)
    → numbered c.logs number ≡ Some plan → numbered s.logs number ≡ Some log
    → AnsweredSoFar s number plan log

-- in a run after which all is done each log has one answer to each of its operations, in order
abbrev pub AllAnsweredInLineOrder : {S : Type 0} → Meaning S → Type 0
AllAnsweredInLineOrder {S} m = (c : Scenario S) (events : List Event) (s : State S)
    → IsComplete m c events s → (number : ℕ) (plan : LogPlan) (log : LogState)
    → numbered c.logs number ≡ Some plan → numbered s.logs number ≡ Some log
    → answered_operations log ≡ operations plan.lines
