-- A run that a seed picked: what is noted in it, and its outcome.
use Rattle.lab_model.proofs.Common.{rules, ◌≡◌, ℕ, List, Bool, true, Meaning, is_done, opening}
use Rattle.lab_rulebook.specs.IsAccepted.{Verified}
use Rattle.lab_core.specs.Running.{Running, begun}
use Rattle.lab_core.specs.Runs.{IsPaced}
use Rattle.lab_findings.specs.declared.noted.Noted.{Noted}
use Rattle.lab_findings.specs.declared.sought.Sought.{Sought}
use Rattle.lab_findings.specs.Searched.{FindsIn}
use Rattle.lab_findings.specs.Watched.{unwatched}
use Rattle.lab_sweep.specs.Found.{IsNotedOf}
use Rattle.lab_sweep.specs.Told.{IsOutcomeOf, Tells, digested_text}
use Rattle.lab_sweep.specs.declared.outcome.SeedOutcome.{SeedOutcome}

module _ {S : Type 0} (m : Meaning S) (lab : Running S) where
  -- what is noted in a complete run that a seed picked is noted in the run by that seed
  pub noted-of : (accepted : Verified S) (prompt : Bool) (seed : ℕ) (sought : Sought)
      (noted : List Noted) → IsPaced m prompt seed (begun accepted) lab
      → is_done lab.scenario lab.state ≡ true
      → FindsIn m accepted.scenario (opening accepted.scenario) (unwatched sought) lab.history noted
      → IsNotedOf m accepted.scenario prompt seed sought noted
  noted-of accepted prompt seed sought noted run done finds = search rules

module _ {S : Type 0} (m : Meaning S) where
  -- what is told of a complete run that a seed picked is its outcome
  pub outcome-of : (accepted : Verified S) (prompt disks : Bool) (seed : ℕ) (lab : Running S)
      (text : List ℕ) (outcome : SeedOutcome) → IsPaced m prompt seed (begun accepted) lab
      → is_done lab.scenario lab.state ≡ true
      → text ≡ digested_text m disks lab.scenario lab.history lab.state
      → Tells seed text lab.history lab.state outcome
      → IsOutcomeOf m accepted.scenario prompt disks seed outcome
  outcome-of accepted prompt disks seed lab text outcome run done is told = record {
    events = run.events;
    end = lab.state;
    picks = run.chosen;
    done = rw run.goes.scenario at done;
    told = rw (run.goes.scenario, run.goes.history) at (rw is at told);
  }
