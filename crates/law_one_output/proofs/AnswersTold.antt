-- An accepted scenario has an answer to each job, and so has a history.
use Rattle.lab_model.proofs.Common.{rules, ◌≡◌, ℕ, suc, ◌*◌, inl, inr, Bool, List, [], ◌∷◌, Some}
use Rattle.lab_model.proofs.Common.{Option, Result, Ok, Err, map, refl, arith, kept_from}
use Rattle.lab_model.proofs.Common.{append-nil, cases_Bool, Lawful, Meaning, IsRun, is_done}
use Rattle.lab_model.proofs.Common.{Scenario, State, opening, Line, true, false}
use Rattle.std.specs.Result.{result_map_both}
use Rattle.lab_text.specs.Rows.{all_rows}
use Rattle.lab_model.specs.declared.event.Event.{Event}
use Rattle.lab_history.specs.History.{line_event}
use Rattle.lab_history.specs.declared.fault.HistoryFault.{HistoryFault}
use Rattle.lab_rulebook.specs.PartsOf.{Texts}
use Rattle.law_headline.specs.Headline.{RunsWell}
use Rattle.lab_rulebook.specs.IsAccepted.{Verified}
use Rattle.lab_model.specs.Rules.{FaultSeen}
use Rattle.lab_refusal.specs.Faults.{history_told}
use Rattle.lab_verify.specs.Verdict.{IsScenario}
use Rattle.lab_core.specs.Running.{IsRunning, begun}
use Rattle.lab_core.specs.Words.{seeded}
use Rattle.lab_core.proofs.Seeded.{chosen-leads}
use Rattle.lab_core.proofs.Known.{length-within, runs-well}
use Rattle.dmlab_run.specs.Findings.{sought_by}
use Rattle.dmlab_run.specs.Histories.{history_read}
use Rattle.dmlab_run.specs.Lines.{Output}
use Rattle.dmlab_run.specs.Output.{Audits, Simulates, TellsJob, TellsRunBy, history_for}
use Rattle.dmlab_words.specs.Findings.{is_seeking}
use Rattle.dmlab_words.specs.declared.asked.Asked.{Asked}
use Rattle.dmlab_words.specs.declared.job.Job.{Job}
use Rattle.dmlab_words.specs.declared.job.Job.TheVariants.{Audit, Check, Sim}
use Rattle.law_one_output.proofs.FoundOne.{found-told}
use Rattle.law_one_output.proofs.Runs.{Goes, goes-on, picks-run, stops-at}
use Rattle.law_one_output.proofs.ReadWhole.{Reads, says-all, seen-told}

-- there is an answer
abbrev pub HasAnswer : (Output → Type 0) → Type 0
HasAnswer Answers = (told : Output) × Answers told

-- ---- histories

-- the events of lines
lines-read : (lines : List (ℕ × List ℕ)) → Reads history_told (all_rows (map line_event lines))
lines-read lines =
    let read = says-all history_told line_event (λ line. (search rules)) [] refl lines in
    rw append-nil at read

-- what is read of a history is its events, or a fault that is told
abbrev pub IsSeen : Result (List Event) (Option FaultSeen) → Type 0
IsSeen (Ok events) = Unit {0}
IsSeen (Err fault) = (seen : FaultSeen) × (fault ≡ Some seen)

-- so it is of each history
history-told : (histories : List (List Line)) → IsSeen (history_read histories)
history-told [] = (_, refl)
history-told (lines ∷ others) =
    by_events (all_rows (map line_event (kept_from 1 lines))) (lines-read (kept_from 1 lines))
  where
    by_events : (events : Result (List Event) HistoryFault) → Reads history_told events
        → IsSeen (result_map_both (λ read. read) history_told events)
    by_events (Ok events) read = tt
    by_events (Err fault) read = seen-told (history_told fault) read

-- and for each job
pub job-history-told : (job : Job) (histories : List (List Line))
    → IsSeen (history_for job histories)
job-history-told Audit histories = history-told histories
job-history-told job histories = tt

-- ---- runs

-- an audit of events has an answer: the report of their run, or that it ends early or stops
events-audited : {S : Type 0} (m : Meaning S) (c : Scenario S) (events : List Event)
    → Goes m c (opening c) events → HasAnswer (Audits m c events)
events-audited m c events (inl leads) = elim (cases_Bool (is_done c leads.0)) [
  | inl is ↦ (_, inr (leads.0, (leads.1, is), refl))
  | inr is ↦ (_, inl (inr ((leads.0, leads.1, is), refl)))
]
events-audited m c events (inr stops) =
    (_, inl (inl (stops.0, stops-at m c events stops.0 stops.1, refl)))

-- ---- what is accepted

module _ {S : Type 0} (m : Meaning S) (lawful : Lawful m) (texts : Texts) (accepted : Verified S)
    (scenario : IsScenario m texts accepted) where
  -- a run of an accepted scenario is one of a laboratory
  lab-runs : (events : List Event) (s : State S) → IsRun m accepted.scenario events s
      → IsRunning m (record {
        scenario = accepted.scenario;
        budget = accepted.budget;
        state = s;
        history = events;
      })
  lab-runs events s run = search rules

  -- and runs well
  pub scenario-well : RunsWell m accepted.scenario
  scenario-well = runs-well m lawful (begun accepted) (lab-runs [] (opening accepted.scenario) refl)

  -- what is told of a run has an answer
  run-told : (seeking : Bool) (seed : ℕ) (history : Bool) (asked : Asked) (events : List Event)
      (end : State S) → IsRun m accepted.scenario events end
      → HasAnswer (TellsRunBy m seeking accepted.scenario seed history asked events end)
  run-told false seed history asked events end run = (_, refl)
  run-told true seed history asked events end run =
      let found = found-told m accepted.scenario seed (sought_by asked) events end run in
      (_, (found.0, found.1, found.2, refl))

  -- so a run by a seed has one
  seed-told : (prompt : Bool) (seed : ℕ) (history : Bool) (asked : Asked)
      → HasAnswer (Simulates m accepted.scenario prompt seed history asked)
  seed-told prompt seed history asked =
      let run = picks-run m accepted.scenario scenario-well prompt (2 * accepted.budget)
      (λ events s run. length-within m lawful _ (lab-runs events s run))
      (suc (2 * accepted.budget)) [] (opening accepted.scenario) (seeded seed) refl
      (omega arith) in
      let told = run-told (is_seeking asked) seed history asked run.events run.end
      (chosen-leads m accepted.scenario prompt _ run.events (opening accepted.scenario) run.end
      run.picks) in (
        told.0,
        record {
          events = run.events;
          end = run.end;
          picks = run.picks;
          done = run.done;
          tells = told.1;
        },
      )

  -- a job has an answer
  pub job-told : (job : Job) (events : List Event) → HasAnswer (TellsJob m job accepted events)
  job-told Check events = (_, refl)
  job-told (Sim seed history prompt asked) events = seed-told prompt seed history asked
  job-told Audit events = events-audited m accepted.scenario events
      (goes-on m accepted.scenario scenario-well events [] (opening accepted.scenario) refl)
