-- What is told of the run of one scenario by one seed (this project's own).
use Rattle.std.specs.Prelude.{◌≡◌, ℕ, List, Bool, true, if◌then◌else◌, length}
use Rattle.lab_target.specs.Meaning.{Meaning}
use Rattle.lab_model.specs.declared.event.Event.{Event}
use Rattle.lab_model.specs.Guard.{is_done}
use Rattle.lab_model.specs.Potential.{clock_steps, steps}
use Rattle.lab_model.specs.Report.{report}
use Rattle.lab_model.specs.Scenario.{Scenario}
use Rattle.lab_model.specs.State.{State, opening}
use Rattle.lab_core.specs.Runs.{ChoosesFrom}
use Rattle.lab_core.specs.Words.{first_words, seeded}
use Rattle.lab_image.specs.Stands.{disks_text}
use Rattle.lab_sweep.specs.SeedLine.{digest_digits, eio_count}
use Rattle.lab_sweep.specs.declared.outcome.SeedOutcome.{SeedOutcome}

-- the text that tells a complete run from others: what stands on the disks then, or its report
abbrev pub digested_text : {S : Type 0} → Meaning S → Bool → Scenario S → List Event → State S
    → List ℕ
digested_text m disks c events end =
    if disks then disks_text m c events end else report m c events end

-- what is told of a complete run by a text: its digest, how many answers are errors, how many events
-- were fired, the clock's and others, and the clock where it ends
pub record Tells {S : Type 0} (seed : ℕ) (text : List ℕ) (events : List Event) (end : State S)
    (outcome : SeedOutcome) : Type 0 where
  pub numbered : outcome.seed ≡ seed
  pub digested : outcome.digest ≡ digest_digits text
  pub failed : outcome.eio ≡ eio_count end.logs
  pub stepped : outcome.steps ≡ steps events
  pub ticked : outcome.clock ≡ clock_steps events
  pub ended : outcome.time ≡ end.clock

-- the outcome is what is told of the complete run whose events the seed's words pick, one after
-- another: in a prompt run among those that are not the clock's, where there are others
pub record IsOutcomeOf {S : Type 0} (m : Meaning S) (c : Scenario S) (prompt disks : Bool)
    (seed : ℕ) (outcome : SeedOutcome) : Type 0 where
  pub events : List Event
  pub end : State S
  pub picks : ChoosesFrom m c prompt (opening c) (first_words (seeded seed) (length events)) events
      end
  pub done : is_done c end ≡ true
  pub told : Tells seed (digested_text m disks c events end) events end outcome
