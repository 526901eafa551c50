-- How a run by threads ends (this project's own).
use Rattle.std.specs.Prelude.{◌≡◌, true, List, ◌++◌, length}
use Rattle.lab_target.specs.Meaning.{Meaning}
use Rattle.lab_model.specs.declared.event.Event.{Event}
use Rattle.lab_model.specs.Effect.{IsRun}
use Rattle.lab_model.specs.Guard.{is_done}
use Rattle.lab_model.specs.Scenario.{Scenario}
use Rattle.lab_any.specs.declared.any_target.AnyTarget.{AnyTarget}
use Rattle.lab_core.specs.Running.{Running}
use Rattle.lab_runner.specs.Counts.{CountsTurns}
use Rattle.lab_runner.specs.declared.sweep.Finished.{Finished}

-- the laboratory has the scenario that was handed in, and its events are a run of it that ends in
-- its state
pub record IsHandedBack {S : Type 0} (m : Meaning S) (c : Scenario S) (lab : Running S)
    : Type 0 where
  pub scenario : lab.scenario ≡ c
  pub run : IsRun m c lab.history lab.state

-- the same of a run that is done: first came the workers' events, each counted for the worker that
-- it belongs to, then those of the sweep
pub record IsFinished (m : Meaning AnyTarget) (c : Scenario AnyTarget) (finished : Finished)
    : Type 0 where
  pub back : IsHandedBack m c finished.lab
  pub done : is_done c finished.lab.state ≡ true
  pub events : List Event
  pub swept : List Event
  pub history : finished.lab.history ≡ events ++ swept
  pub counted : CountsTurns m c events finished.counts.items
  pub swept_count : finished.swept ≡ length swept
