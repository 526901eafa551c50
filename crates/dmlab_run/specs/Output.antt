-- What is written for a bundle: the line of its first fault, or what the job asks for (this
-- project's own).
use Rattle.std.specs.Prelude.{◌≡◌, ◌⊎◌, ℕ, ◌+◌, List, [], ◌++◌, Bool, true, false, Option, Some, Result, Ok, Err, codes, decimal, length}
use Rattle.std.specs.Option.{option_and_then}
use Rattle.lab_text.specs.Bundle.{Line, bundle_faults, first_of}
use Rattle.lab_target.specs.Meaning.{Meaning}
use Rattle.lab_model.specs.declared.event.Event.{Event}
use Rattle.lab_model.specs.Effect.{IsComplete}
use Rattle.lab_model.specs.Guard.{is_done}
use Rattle.lab_model.specs.Report.{budget_text, report, text_line}
use Rattle.lab_model.specs.Scenario.{Scenario}
use Rattle.lab_model.specs.State.{State, opening}
use Rattle.lab_history.specs.History.{history_text}
use Rattle.lab_rulebook.specs.PartsOf.{HasTexts, IsReadable, Texts}
use Rattle.lab_rulebook.specs.IsAccepted.{Verified}
use Rattle.lab_model.specs.Rules.{FaultSeen}
use Rattle.lab_refusal.specs.Faults.{bundle_told}
use Rattle.lab_verify.specs.ReadFaults.{read_fault}
use Rattle.lab_verify.specs.Verdict.{IsFirstFault, IsScenario}
use Rattle.lab_core.specs.Audit.{EndsEarly, StopsAt}
use Rattle.lab_core.specs.Runs.{ChoosesFrom}
use Rattle.lab_core.specs.Words.{first_words, seeded}
use Rattle.lab_sweep.specs.Found.{TellsRun}
use Rattle.lab_sweep.specs.declared.totals.Totals.{Totals}
use Rattle.dmlab_run.specs.Findings.{found_with, sought_by}
use Rattle.dmlab_run.specs.Histories.{histories_of, history_read}
use Rattle.dmlab_run.specs.Lines.{Output, done_with, refused_for, refused_with}
use Rattle.dmlab_words.specs.Findings.{is_seeking}
use Rattle.dmlab_words.specs.declared.asked.Asked.{Asked}
use Rattle.dmlab_words.specs.declared.job.Job.{Job}
use Rattle.dmlab_words.specs.declared.job.Job.TheVariants.{Audit, Check, Sim}

-- the part that tells a run's events, where they are asked for
abbrev pub history_part : Bool → List Event → List ℕ
history_part false events = []
history_part true events = text_line (codes "== history") ++ history_text events

-- the first fault of the bytes as a bundle, if they are none
abbrev pub bundle_fault : List ℕ → Option FaultSeen
bundle_fault bytes = option_and_then bundle_told (first_of (bundle_faults bytes))

-- what a job reads of the history: an audit its events, the others nothing
abbrev pub history_for : Job → List (List Line) → Result (List Event) (Option FaultSeen)
history_for Audit histories = history_read histories
history_for _ histories = Ok []

module _ {S : Type 0} (m : Meaning S) where
  -- what is told of these events, which lead a scenario to this end: the report, and the events
  -- where they are asked for; between them, where some finding is asked for, the table of what is
  -- found
  abbrev pub TellsRunBy : Bool → Scenario S → ℕ → Bool → Asked → List Event → State S → Output
      → Type 0
  TellsRunBy false c seed history asked events end told =
      told ≡ done_with (report m c events end ++ history_part history events)
  TellsRunBy true c seed history asked events end told = (table : List ℕ) × (totals : Totals)
      × TellsRun m c seed (sought_by asked) events table totals
      × (told ≡ found_with asked (report m c events end ++ table ++ history_part history events)
      totals)

  -- what is told of a run by a seed is that of the complete run whose events the seed's words pick,
  -- one after another: in a prompt run among those that are not the clock's, where there are others
  pub record Simulates (c : Scenario S) (prompt : Bool) (seed : ℕ) (history : Bool) (asked : Asked)
      (told : Output) : Type 0 where
    pub events : List Event
    pub end : State S
    pub picks : ChoosesFrom m c prompt (opening c) (first_words (seeded seed) (length events))
        events end
    pub done : is_done c end ≡ true
    pub tells : TellsRunBy (is_seeking asked) c seed history asked events end told

  -- the events are no complete run, and it is told where: at the first that may not come, counted
  -- from 1, or behind the last where not all is done
  abbrev pub RefusesRun : Scenario S → List Event → Output → Type 0
  RefusesRun c events told = ((place : ℕ) × StopsAt m c events place
      × (told ≡ refused_with (codes "not a run at " ++ decimal (place + 1))))
      ⊎ (EndsEarly m c events
      × (told ≡ refused_with (codes "unfinished at " ++ decimal (length events + 1))))

  -- the answer to an audit of these events: the report of a complete run, or why they are none
  abbrev pub Audits : Scenario S → List Event → Output → Type 0
  Audits c events told = RefusesRun c events told
      ⊎ ((end : State S) × IsComplete m c events end × (told ≡ done_with (report m c events end)))

  -- the answer to a job on an accepted scenario, and on the events that it reads of the history
  abbrev pub TellsJob : Job → Verified S → List Event → Output → Type 0
  TellsJob Check accepted events told = told ≡ done_with (text_line (budget_text accepted.budget))
  TellsJob (Sim seed history prompt asked) accepted events told =
      Simulates accepted.scenario prompt seed history asked told
  TellsJob Audit accepted events told = Audits accepted.scenario events told

  -- the first fault of some texts and of what is read of the history: one of reading the texts,
  -- then one of the history, then one of the rules
  abbrev pub IsFirst : Texts → Result (List Event) (Option FaultSeen) → FaultSeen → Type 0
  IsFirst texts (Ok events) seen = IsFirstFault m texts seen
  IsFirst texts (Err fault) seen =
      (read_fault m texts ≡ Some seen) ⊎ (IsReadable m texts × (fault ≡ Some seen))

  -- the texts or the history have this first fault, and it is told; or the texts are a scenario,
  -- and so much is told of it and of the events
  abbrev pub Judges : Texts → Result (List Event) (Option FaultSeen)
      → (Verified S → List Event → Output → Type 0) → Output → Type 0
  Judges texts history Tells told =
      ((seen : FaultSeen) × IsFirst texts history seen × (told ≡ refused_for seen))
      ⊎ ((accepted : Verified S) × IsScenario m texts accepted × (events : List Event)
      × (history ≡ Ok events) × Tells accepted events told)

  -- the bytes are no bundle, and their first fault is told; or they are one, and its texts are
  -- judged
  abbrev pub Answers : List ℕ → Result (List Event) (Option FaultSeen)
      → (Verified S → List Event → Output → Type 0) → Output → Type 0
  Answers bytes history Tells told =
      ((seen : FaultSeen) × (bundle_fault bytes ≡ Some seen) × (told ≡ refused_for seen))
      ⊎ ((bundle_faults bytes ≡ []) × (texts : Texts) × HasTexts bytes texts
      × Judges texts history Tells told)

  -- the whole output of a job on these bytes
  abbrev pub IsOutput : Job → List ℕ → Output → Type 0
  IsOutput job bytes told =
      Answers bytes (history_for job (histories_of bytes)) (TellsJob job) told
