-- The trace of the run that a seed picks (this project's own).
use Rattle.std.specs.Prelude.{◌≡◌, ℕ, Bool, true, List}
use Rattle.lab_target.specs.Meaning.{Meaning}
use Rattle.lab_model.specs.Guard.{is_done}
use Rattle.lab_rulebook.specs.IsAccepted.{Verified}
use Rattle.lab_core.specs.Running.{Running, begun}
use Rattle.lab_core.specs.Runs.{IsPaced}
use Rattle.lab_trace.specs.Traces.{IsTraceOf}

-- the text is the trace of the complete run that the seed picks
pub record IsTraceOfSeed {S : Type 0} (m : Meaning S) (accepted : Verified S) (prompt : Bool)
    (seed : ℕ) (text : List ℕ) : Type 0 where
  pub lab : Running S
  pub paced : IsPaced m prompt seed (begun accepted) lab
  pub done : is_done lab.scenario lab.state ≡ true
  pub told : IsTraceOf m accepted.scenario lab.history text
