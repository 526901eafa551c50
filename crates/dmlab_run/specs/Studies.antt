-- What is written for a study of a bundle: the line of its first fault, or the trace of a run, what
-- stands on the disks then, or the sweep or the search of many seeds (this project's own).
use Rattle.std.specs.Prelude.{◌≡◌, ◌⊎◌, ℕ, List, [], Bool, true, false, Option, Result, Ok, length}
use Rattle.lab_text.specs.Bundle.{Line}
use Rattle.lab_target.specs.Meaning.{Meaning}
use Rattle.lab_model.specs.declared.event.Event.{Event}
use Rattle.lab_model.specs.Effect.{IsComplete}
use Rattle.lab_model.specs.Guard.{is_done}
use Rattle.lab_model.specs.Scenario.{Scenario}
use Rattle.lab_model.specs.State.{State, opening}
use Rattle.lab_rulebook.specs.IsAccepted.{Verified}
use Rattle.lab_model.specs.Rules.{FaultSeen}
use Rattle.lab_core.specs.Runs.{ChoosesFrom}
use Rattle.lab_core.specs.Words.{first_words, seeded}
use Rattle.lab_trace.specs.Traces.{IsTraceOf}
use Rattle.lab_image.specs.Stands.{disks_text}
use Rattle.lab_sweep.specs.Search.{IsSearch}
use Rattle.lab_sweep.specs.Sweep.{IsSweep}
use Rattle.lab_sweep.specs.declared.totals.Totals.{Totals}
use Rattle.dmlab_run.specs.Findings.{found_with, sought_by}
use Rattle.dmlab_run.specs.Histories.{histories_of, history_read}
use Rattle.dmlab_run.specs.Lines.{Output, done_with}
use Rattle.dmlab_run.specs.Output.{Answers, RefusesRun}
use Rattle.dmlab_words.specs.Findings.{is_seeking}
use Rattle.dmlab_words.specs.declared.asked.Asked.{Asked}
use Rattle.dmlab_words.specs.declared.study.Study.{Study}
use Rattle.dmlab_words.specs.declared.study.Study.TheVariants.{Disks, DisksHistory, Sweep}
use Rattle.dmlab_words.specs.declared.study.Study.TheVariants.{Trace, TraceHistory}

-- what a study reads of the history: the trace and the disks of it its events, the others nothing
abbrev pub studied_history : Study → List (List Line) → Result (List Event) (Option FaultSeen)
studied_history TraceHistory histories = history_read histories
studied_history DisksHistory histories = history_read histories
studied_history _ histories = Ok []

module _ {S : Type 0} (m : Meaning S) where
  -- the text is the trace of the complete run whose events the seed's words pick, one after
  -- another: in a prompt run among those that are not the clock's, where there are others
  pub record TracesSeed (c : Scenario S) (prompt : Bool) (seed : ℕ) (text : List ℕ) : Type 0 where
    pub events : List Event
    pub end : State S
    pub picks : ChoosesFrom m c prompt (opening c) (first_words (seeded seed) (length events))
        events end
    pub done : is_done c end ≡ true
    pub told : IsTraceOf m c events text

  -- what is written for these events: the trace of a complete run, or why they are none
  abbrev pub TracesEvents : Scenario S → List Event → Output → Type 0
  TracesEvents c events told = RefusesRun m c events told
      ⊎ ((end : State S) × IsComplete m c events end
      × (told ≡ done_with told.text) × IsTraceOf m c events told.text)

  -- the text tells what stands on the disks after the complete run whose events the seed's words
  -- pick so
  pub record DisksOfSeed (c : Scenario S) (prompt : Bool) (seed : ℕ) (text : List ℕ) : Type 0 where
    pub events : List Event
    pub end : State S
    pub picks : ChoosesFrom m c prompt (opening c) (first_words (seeded seed) (length events))
        events end
    pub done : is_done c end ≡ true
    pub told : text ≡ disks_text m c events end

  -- what is written for these events: what stands on the disks after a complete run, or why they are
  -- none
  abbrev pub DisksOfEvents : Scenario S → List Event → Output → Type 0
  DisksOfEvents c events told = RefusesRun m c events told ⊎ ((end : State S)
      × IsComplete m c events end × (told ≡ done_with (disks_text m c events end)))

  -- what is told of the runs of the seeds from the first to the last, which are searched or swept
  abbrev pub TellsSeedsBy : Bool → Scenario S → Bool → ℕ → ℕ → Asked → Bool → Bool → Output
      → Type 0
  TellsSeedsBy true c prompt first last asked by_line disks told = (text : List ℕ) × (totals : Totals)
      × IsSearch m c prompt first last (sought_by asked) by_line text totals
      × (told ≡ found_with asked text totals)
  TellsSeedsBy false c prompt first last asked by_line disks told =
      (text : List ℕ) × IsSweep m c prompt disks first last text × (told ≡ done_with text)

  -- they are searched where some finding is asked for
  abbrev pub TellsSeeds : Scenario S → Bool → ℕ → ℕ → Asked → Bool → Bool → Output → Type 0
  TellsSeeds c prompt first last asked by_line disks told =
      TellsSeedsBy (is_seeking asked) c prompt first last asked by_line disks told

  -- what is written for an accepted scenario, and for the events that are read of the history
  abbrev pub TellsStudy : Study → Verified S → List Event → Output → Type 0
  TellsStudy (Trace seed prompt) accepted events told =
      (told ≡ done_with told.text) × TracesSeed accepted.scenario prompt seed told.text
  TellsStudy TraceHistory accepted events told = TracesEvents accepted.scenario events told
  TellsStudy (Disks seed prompt) accepted events told =
      (told ≡ done_with told.text) × DisksOfSeed accepted.scenario prompt seed told.text
  TellsStudy DisksHistory accepted events told = DisksOfEvents accepted.scenario events told
  TellsStudy (Sweep first last prompt asked by_line disks) accepted events told =
      TellsSeeds accepted.scenario prompt first last asked by_line disks told

  -- the whole output of a study of these bytes
  abbrev pub IsStudyOutput : Study → List ℕ → Output → Type 0
  IsStudyOutput study bytes told =
      Answers m bytes (studied_history study (histories_of bytes)) (TellsStudy study) told
