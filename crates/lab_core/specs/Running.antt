-- A laboratory: an accepted scenario and how far it has run (this project's own).
use Rattle.std.specs.Prelude.{ℕ, List, []}
use Rattle.lab_target.specs.Meaning.{Meaning}
use Rattle.lab_model.specs.declared.event.Event.{Event}
use Rattle.lab_model.specs.Effect.{IsRun}
use Rattle.lab_model.specs.Scenario.{Scenario}
use Rattle.lab_model.specs.State.{State, opening}
use Rattle.lab_rulebook.specs.IsAccepted.{IsAccepted, Verified}

-- a scenario that runs: its budget, the state in which it stands, and the events that were fired
pub record Running (S : Type 0) : Type 0 where
  pub scenario : Scenario S
  pub budget : ℕ
  pub state : State S
  pub history : List Event

-- the scenario was accepted with this budget, and the events are a run that ends in the state
pub record IsRunning {S : Type 0} (m : Meaning S) (lab : Running S) : Type 0 where
  pub accepted : IsAccepted m lab.scenario lab.budget
  pub run : IsRun m lab.scenario lab.history lab.state

-- an accepted scenario before its first event
abbrev pub begun : {S : Type 0} → Verified S → Running S
begun accepted = record {
  scenario = accepted.scenario;
  budget = accepted.budget;
  state = opening accepted.scenario;
  history = [];
}
