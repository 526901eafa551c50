-- What holds of a laboratory wherever it stands: the headline's promises, of its own scenario and of its
-- own events so far (this project's own).
use Rattle.std.specs.Prelude.{◌≡◌, ℕ, ◌+◌, ◌≤◌, Some}
use Rattle.lab_target.specs.Meaning.{Meaning}
use Rattle.lab_model.specs.Lists.{numbered}
use Rattle.lab_model.specs.Potential.{potential, steps}
use Rattle.lab_model.specs.Scenario.{LogPlan}
use Rattle.lab_model.specs.State.{LogState}
use Rattle.lab_model.specs.Walk.{devices_image, walk}
use Rattle.law_slots.specs.WalkIsKept.{controls}
use Rattle.law_answered_once.specs.AnsweredOnce.{AnsweredSo}
use Rattle.law_answered_once.specs.LineOrder.{AnsweredSoFar, answered_operations, operations}
use Rattle.law_within_budget.specs.ClockBounded.{ClockKeeps}
use Rattle.law_headline.specs.Bounds.{StaysBounded}
use Rattle.law_headline.specs.Headline.{RunsWell}
use Rattle.lab_core.specs.Running.{IsRunning, Running}

-- a laboratory stands well
pub record StandsWell {S : Type 0} (m : Meaning S) (lab : Running S) : Type 0 where
  -- its scenario was accepted, and its events so far are a run of it that ends in its state
  pub running : IsRunning m lab
  -- the headline holds of its scenario
  pub runs_well : RunsWell m lab.scenario
  -- and its runs stay bounded
  pub stays_bounded : StaysBounded m lab.scenario
  -- the events so far, the clock's left out, and what can still come are within the budget
  pub within_budget : steps lab.history + potential m lab.scenario lab.state ≤ lab.budget
  -- the clock's events are as few, and each moment with an hour for each event that is left is at most
  -- an hour for each of the budget
  pub clock_keeps : ClockKeeps m lab.scenario lab.history lab.state
  -- each bio that is dead has one answer, and each that lives has none
  pub answered_once : (number : ℕ) → AnsweredSo lab.state lab.history number
  -- each log's answers are to its operations, in line order
  pub in_line_order : (number : ℕ) (plan : LogPlan) (log : LogState)
      → numbered lab.scenario.logs number ≡ Some plan → numbered lab.state.logs number ≡ Some log
      → AnsweredSoFar lab.state number plan log
  -- slots and modes are the walk's after as many steps of the script as there were
  pub walks : devices_image m lab.state.devices ≡ walk m lab.scenario (controls lab.history)

-- each log has one answer to each of its operations, in the order of their lines
abbrev pub AllAnsweredInOrder : {S : Type 0} → Running S → Type 0
AllAnsweredInOrder lab = (number : ℕ) (plan : LogPlan) (log : LogState)
    → numbered lab.scenario.logs number ≡ Some plan → numbered lab.state.logs number ≡ Some log
    → answered_operations log ≡ operations plan.lines
