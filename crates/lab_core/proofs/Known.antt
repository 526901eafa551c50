-- What is known of an accepted scenario and of each of its runs. A laboratory stands well, since
-- its scenario was accepted and its events so far are a run.
use Rattle.lab_model.proofs.Common.{rules, ◌≡◌, ℕ, ◌-◌, ◌*◌, ◌<◌, ◌≤◌, true, List, [], ◌∷◌, ◌++◌}
use Rattle.lab_model.proofs.Common.{length, length-append, sym, ap, subst, arith, Lawful, Meaning}
use Rattle.lab_model.proofs.Common.{IsRun, is_enabled, Fine, Scenario, State, ◌∙◌, steps, walk}
use Rattle.lab_model.proofs.Common.{is_done}
use Rattle.lab_model.specs.declared.event.Event.{Event}
use Rattle.lab_model.specs.Ready.{IsReady}
use Rattle.lab_model.specs.Bounds.{CanNumber}
use Rattle.lab_rulebook.specs.Limits.{limit}
use Rattle.lab_rulebook.proofs.AcceptedScripts.{accepted-is-fine}
use Rattle.lab_rulebook.specs.PartsOf.{parts_of_texts}
use Rattle.lab_rulebook.proofs.ReadParts.{parts-well}
use Rattle.lab_rulebook.proofs.ReadVersions.{read-is-timely}
use Rattle.law_headline.specs.Bounds.{StaysBounded}
use Rattle.law_headline.specs.Headline.{RunsWell}
use Rattle.law_headline.proofs.Whole.{fine-stays-bounded, fine-runs-well}
use Rattle.law_needs_met.proofs.BioCount.{all-steps}
use Rattle.law_needs_met.proofs.AllReady.{logs-few, numbers-fit, runs-ready}
use Rattle.law_needs_met.proofs.InHours.{texts-in-hours}
use Rattle.lab_rulebook.specs.IsAccepted.{IsAccepted}
use Rattle.lab_core.specs.Running.{IsRunning, Running}
use Rattle.law_slots.proofs.WalkRuns.{run-keeps-walk}
use Rattle.law_answered_once.proofs.OnceLemmas.{each-answered_once}
use Rattle.law_answered_once.proofs.OrderLaw.{each-answered_in_line_order}
use Rattle.law_within_budget.specs.PassesAll.{HasOneVersion, TablesPassAll}
use Rattle.law_within_budget.proofs.ExactRuns.{meets-its-budget}
use Rattle.lab_core.specs.Standing.{StandsWell}

-- an accepted scenario is fine, since its parts are read of texts
pub accepted-fine : {S : Type 0} (m : Meaning S) → Lawful m → (c : Scenario S) (most : ℕ)
    → IsAccepted m c most → Fine m c
accepted-fine m lawful c most accepted = rw accepted.said (accepted-is-fine m
    (parts_of_texts m accepted.texts) (parts-well m lawful accepted.texts) accepted.keeps.rules)

-- so it runs well
accepted-runs-well : {S : Type 0} (m : Meaning S) → Lawful m → (c : Scenario S) (most : ℕ)
    → IsAccepted m c most → RunsWell m c
accepted-runs-well m lawful c most accepted =
    fine-runs-well m lawful c (accepted-fine m lawful c most accepted)

-- and its runs stay bounded
accepted-stays-bounded : {S : Type 0} (m : Meaning S) → Lawful m → (c : Scenario S) (most : ℕ)
    → IsAccepted m c most → StaysBounded m c
accepted-stays-bounded m lawful c most accepted =
    let parts = parts_of_texts m accepted.texts in
    let timely = read-is-timely m parts (parts-well m lawful accepted.texts)
    (texts-in-hours m accepted.texts) in
    fine-stays-bounded m lawful c (accepted-fine m lawful c most accepted)
    (rw accepted.said timely) (rw accepted.said accepted.keeps.budget)

module _ {S : Type 0} (m : Meaning S) (lawful : Lawful m) (lab : Running S)
    (running : IsRunning m lab) where
  -- its scenario runs well
  pub runs-well : RunsWell m lab.scenario
  runs-well = accepted-runs-well m lawful lab.scenario lab.budget running.accepted

  -- and its runs stay bounded
  pub stays-bounded : StaysBounded m lab.scenario
  stays-bounded = accepted-stays-bounded m lawful lab.scenario lab.budget running.accepted

  -- and at most as many are not, so it has fired at most twice as many
  pub length-within : length lab.history ≤ 2 * lab.budget
  length-within = search (rules, all-steps, runs-well, stays-bounded)

  -- the budget is within the limit
  pub budget-within : lab.budget ≤ limit
  budget-within = search rules

  -- each event that may come finds all that it needs
  pub is-ready : (event : Event) → is_enabled lab.scenario lab.state event ≡ true
      → IsReady m lab.scenario lab.state event
  is-ready event may =
      let P : Scenario S → Type 0 = λ c. (events : List Event) (s : State S)
      → IsRun m c events s → is_enabled c s event ≡ true → IsReady m c s event in
      subst P (sym running.accepted.said)
      (λ events s run is. runs-ready m lawful running.accepted.texts running.accepted.keeps
      events s run event is) lab.history lab.state running.run may

  -- its logs are few
  pub few-logs : length lab.scenario.logs ≤ 64
  few-logs = search (rules, logs-few)

  -- its logs and bios can be numbered
  pub can-number : CanNumber lab.scenario lab.state
  can-number =
      let P : Scenario S → Type 0 = λ c. (events : List Event) (s : State S)
      → IsRun m c events s → CanNumber c s in
      subst P (sym running.accepted.said)
      (λ events s run. (numbers-fit m lawful running.accepted.texts running.accepted.keeps
      events s run).places) lab.history lab.state running.run

-- each event that is fired leaves fewer
pub fewer-left : {S : Type 0} (m : Meaning S) (lawful : Lawful m) (old new : Running S)
    (event : Event) → new.history ≡ old.history ++ event ∷ [] → new.budget ≡ old.budget
    → IsRunning m new
    → 2 * new.budget - length new.history < 2 * old.budget - length old.history
fewer-left m lawful old new event longer same running = omega (
  arith,
  length-within m lawful new running,
  ap length longer,
  length-append old.history (event ∷ []),
)

module _ {S : Type 0} (m : Meaning S) (lawful : Lawful m) (lab : Running S)
    (running : IsRunning m lab) where
  -- each law of runs holds of its own events
  pub stands-well : StandsWell m lab
  stands-well =
      let walks = run-keeps-walk m lawful lab.scenario lab.history lab.state running.run in
      record {
        running = running;
        runs_well = runs-well m lawful lab running;
        stays_bounded = stays-bounded m lawful lab running;
        within_budget = search (rules, (stays-bounded m lawful lab running).within_budget);
        clock_keeps = (stays-bounded m lawful lab running).clock_bounded lab.history lab.state
            running.run;
        answered_once = each-answered_once m lab.scenario lab.history lab.state running.run;
        in_line_order = each-answered_in_line_order m lab.scenario lab.history lab.state
            running.run;
        walks = walks.0 ∙ ap (λ n. walk m lab.scenario n) walks.1;
      }

  -- once all is done the events, the clock's left out, are the budget, where no device has more than
  -- one version and all lines take the dearest course of each piece
  pub steps-met : HasOneVersion lab.scenario → TablesPassAll m lab.scenario
      → is_done lab.scenario lab.state ≡ true → steps lab.history ≡ lab.budget
  steps-met single passes done = let fine = accepted-fine m lawful lab.scenario lab.budget
      running.accepted in search (rules, meets-its-budget m lawful lab.scenario, fine)
