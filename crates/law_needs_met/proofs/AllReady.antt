-- All moments are within the greatest budget's hours, so sums with an hour fit 64 bits. The laws,
-- put together: what texts say and is accepted is well read, in hours, and fine; so none of its
-- runs goes wrong, and each keeps what each event keeps and stays within the budget.
use Rattle.lab_model.proofs.Common.{rules, ◌≡◌, ℕ, zero, suc, ◌+◌, ◌<◌, ◌≤◌, ◌^◌, List, ◌∷◌, ◌++◌}
use Rattle.lab_model.proofs.Common.{Some, inl, inr, slice_get, filter_map, refl, arith}
use Rattle.lab_model.proofs.Common.{cases_Bool, slice_get-get_or, slice_get-map, Meaning, budget}
use Rattle.lab_model.proofs.Common.{due_of, moments, Scenario, LogState, State, living}
use Rattle.lab_model.proofs.Common.{slice_get-append, length, Lawful, IsRun, Fine}
use Rattle.lab_model.specs.declared.event.Event.{Event}
use Rattle.lab_model.specs.declared.micro.Micro.{Micro}
use Rattle.lab_model.specs.declared.micro.Order.TheVariants.{Sleep}
use Rattle.lab_model.specs.Bounds.{HasMoments, NextFits, latest_moment}
use Rattle.law_slots.specs.Timely.{IsTimely}
use Rattle.law_slots.proofs.AllOf.{all-at}
use Rattle.law_within_budget.specs.ClockBounded.{ClockKeeps}
use Rattle.lab_rulebook.specs.Limits.{limit}
use Rattle.law_needs_met.proofs.AsPlanned.{IsAsPlanned, disks-differ, runs-as-planned, StandsRead}
use Rattle.law_needs_met.proofs.AsPlanned.{clear-stands, nothing-stands}
use Rattle.law_needs_met.proofs.EventsLeave.{log_moments}
use Rattle.law_slots.proofs.WalkRuns.{run-keeps-walk}
use Rattle.law_never_wrong.proofs.Events.{all-never-wrong, all-runs-fit}
use Rattle.law_within_budget.proofs.Within.{runs-bound-clock, runs-within-budget}
use Rattle.lab_rulebook.specs.Accepted.{Accepted}
use Rattle.lab_rulebook.specs.Parts.{Parts}
use Rattle.lab_rulebook.specs.Read.{WellRead}
use Rattle.lab_rulebook.specs.Standing.{nothing}
use Rattle.lab_rulebook.specs.Walked.{scenario_of, standing_after}
use Rattle.lab_rulebook.proofs.AcceptedScripts.{accepted-is-fine}
use Rattle.lab_rulebook.proofs.ClearLemmas.{is-clear}
use Rattle.lab_rulebook.specs.PartsOf.{Texts, parts_of_texts}
use Rattle.lab_rulebook.proofs.ReadParts.{parts-well}
use Rattle.lab_rulebook.proofs.ReadVersions.{read-is-timely}
use Rattle.law_needs_met.specs.Law.{EachIsReady, NumbersAre}
use Rattle.law_needs_met.proofs.BioCount.{bios-most, all-steps, controls-most}
use Rattle.law_needs_met.proofs.EventsFit.{event-fits}
use Rattle.law_needs_met.proofs.InHours.{texts-in-hours}
use Rattle.law_needs_met.proofs.RunsRecorded.{runs-recorded}
use Rattle.law_needs_met.proofs.ReadTables.{read-opening}

-- a log's moment is among the logs' moments, at its place
moment-at : (logs : List LogState) (place : ℕ) (log : LogState)
    → slice_get logs place ≡ Some log → slice_get (log_moments logs) place ≡ Some log.moment
moment-at logs place log there = search (rules, slice_get-map)

module _ {S : Type 0} (m : Meaning S) (c : Scenario S) (events : List Event) (s : State S)
    (keeps : ClockKeeps m c events s) (small : budget m c ≤ limit) (is : IsAsPlanned m c s) where
  -- the moment of a log that has started, or hasn't
  log-most : (place : ℕ) (log : LogState) → slice_get s.logs place ≡ Some log
      → log.moment ≤ latest_moment
  log-most place log there =
      let stands = moment-at s.logs place log there in
      let more = filter_map (λ bio. due_of bio.stage) (living s) in
      elim (cases_Bool s.started) [
        | inl on ↦
            let among = slice_get-append (log_moments s.logs) more place log.moment stands in
            let all : moments s ≡ s.moment ∷ log_moments s.logs ++ more = rw on refl in
            omega (arith, keeps.ahead (suc place) log.moment (rw all among), small)
        | inr off ↦ search (rules, all-at, log_moments)
      ]

  -- all moments are
  pub has-moments : HasMoments s
  has-moments =
      search (rules, keeps.clock, keeps.ahead zero s.moment refl, log-most, slice_get-get_or)

  module _ (timely : IsTimely m c) where
    -- the moment of a log after its next line fits
    pub next-fits : (number : ℕ) → NextFits c s number
    next-fits number plan log line planned stood there = search (rules, log-most)

    -- so does the script's after a sleep
    pub sleep-fits : (micro : Micro) (time : ℕ) → slice_get c.micros s.done ≡ Some micro
        → micro.order ≡ Sleep time → s.clock + time < 2 ^ 64
    sleep-fits micro time found is = search rules

module _ {S : Type 0} (m : Meaning S) (lawful : Lawful m) (texts : Texts)
    (accepted : Accepted m (parts_of_texts m texts)) where
  -- the parts that the texts say
  abbrev parts : Parts S
  parts = parts_of_texts m texts

  -- their scenario
  abbrev c : Scenario S
  c = scenario_of m parts

  -- the parts are well read
  read : WellRead m parts
  read = parts-well m lawful texts

  -- the script breaks no rule, so what stands at its end stands as read
  stands-read : StandsRead m parts (standing_after m parts parts.script)
  stands-read = clear-stands m parts parts.script nothing (is-clear m parts nothing parts.script
      (λ place row rule is breaks. accepted.rules.script place row rule (is, breaks))
      accepted.rules.ends) (nothing-stands m parts)

  -- so its logs are few
  pub logs-few : length c.logs ≤ 64
  logs-few = omega (arith, stands-read.logs, accepted.limits.logs)

  -- the scenario is fine
  fine : Fine m c
  fine = accepted-is-fine m parts read accepted.rules

  -- nothing in it takes longer than an hour
  timely : IsTimely m c
  timely = read-is-timely m parts read (texts-in-hours m texts)

  -- so no run's clock goes on too often or too far
  clock-keeps : (events : List Event) (s : State S) → IsRun m c events s → ClockKeeps m c events s
  clock-keeps = runs-bound-clock m lawful c fine.acyclic fine.creates timely

  -- after each run each event that may come is ready
  pub runs-ready : (events : List Event) (s : State S) → IsRun m c events s
      → EachIsReady m c events s
  runs-ready events s run event may =
      let planned = runs-as-planned m c lawful fine events s run in
      let clock = clock-keeps events s run in
      record {
        moves = all-never-wrong m lawful c fine events s run event may;
        opening = read-opening m parts read;
        moments = has-moments m c events s clock accepted.budget planned;
        differ = disks-differ m c s planned stands-read.disks;
        fits = event-fits m c s (all-runs-fit m lawful c fine events s run)
            (runs-recorded m lawful c fine events s run)
            (next-fits m c events s clock accepted.budget planned timely)
            (sleep-fits m c events s clock accepted.budget planned timely) event may;
      }

  -- and the run's numbers fit
  pub numbers-fit : (events : List Event) (s : State S) → IsRun m c events s
      → NumbersAre m c events s
  numbers-fit events s run =
      let within = runs-within-budget m lawful c fine.acyclic fine.creates events s run in
      let small = accepted.budget in
      let clock = (clock-keeps events s run).ticks in
      let bios = bios-most m c events s run within in
      let walked = (run-keeps-walk m lawful c events s run).1 in
      let planned = runs-as-planned m c lawful fine events s run in
      let few = controls-most events in
      record {
        places = search (rules, logs-few);
        budget = small;
        bios = omega (arith, bios, small);
        logs = (all-runs-fit m lawful c fine events s run).logs;
        done = omega (arith, walked, few, within, small);
        devices = omega (arith, planned.devices, walked, few, within, small);
        steps = omega (arith, within, small);
        clock_steps = omega (arith, clock, small);
        history = omega (arith, all-steps events, within, clock, small);
      }
