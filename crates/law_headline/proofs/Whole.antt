-- The laws of runs, put together for an accepted scenario.
use Rattle.lab_model.proofs.Common.{◌≤◌, arith, Lawful, Meaning, budget, Scenario, Fine, List}
use Rattle.lab_model.specs.declared.event.Event.{Event}
use Rattle.lab_model.specs.Effect.{IsRun}
use Rattle.lab_model.specs.Potential.{steps}
use Rattle.lab_model.specs.State.{State}
use Rattle.lab_rulebook.specs.Limits.{limit}
use Rattle.law_slots.proofs.LogsStand.{logs-stand}
use Rattle.law_answered_once.proofs.OnceLemmas.{each-answered_when_done}
use Rattle.law_slots.specs.Timely.{IsTimely}
use Rattle.law_within_budget.proofs.Within.{runs-bound-clock, runs-within-budget}
use Rattle.law_never_wrong.proofs.Events.{all-lists-are-runs, all-never-wrong, all-runs-fit}
use Rattle.law_never_wrong.proofs.Done.{done-rests}
use Rattle.law_never_wrong.proofs.Stuck.{fits-moves}
use Rattle.law_headline.specs.Bounds.{StaysBounded}
use Rattle.law_headline.specs.Headline.{RunsWell}

-- a fine scenario runs well
pub fine-runs-well : {S : Type 0} (m : Meaning S) → Lawful m → (c : Scenario S) → Fine m c
    → RunsWell m c
fine-runs-well {S} m lawful c fine = record {
  lists = all-lists-are-runs m lawful c fine;
  never_wrong = all-never-wrong m lawful c fine;
  never_stuck = λ events s run rest.
      fits-moves m c s (all-runs-fit m lawful c fine events s run) rest;
  rests = λ events s complete. done-rests c s (logs-stand m c events s complete.0) complete.1;
  within_budget = steps-within;
  answered_once = each-answered_when_done m c;
}
  where
    -- what a state can still take isn't below nothing
    steps-within : (events : List Event) (s : State S) → IsRun m c events s
        → steps events ≤ budget m c
    steps-within events s run =
        omega (arith, runs-within-budget m lawful c fine.acyclic fine.creates events s run)

-- and where nothing takes longer than an hour, its runs stay bounded
pub fine-stays-bounded : {S : Type 0} (m : Meaning S) → Lawful m → (c : Scenario S) → Fine m c
    → IsTimely m c → budget m c ≤ limit → StaysBounded m c
fine-stays-bounded m lawful c fine timely small = record {
  within_budget = runs-within-budget m lawful c fine.acyclic fine.creates;
  clock_bounded = runs-bound-clock m lawful c fine.acyclic fine.creates timely;
  fits = omega (arith, small);
}
