-- What is written for a run by threads (this project's own). Which run it is, is left to the
-- threads.
use Rattle.std.specs.Prelude.{◌≡◌, ℕ, List, [], ◌++◌, Bool, Ok, codes, decimal, length}
use Rattle.lab_text.specs.Numbers.{spaced_numbers}
use Rattle.lab_target.specs.Meaning.{Meaning}
use Rattle.lab_model.specs.declared.event.Event.{Event}
use Rattle.lab_model.specs.Effect.{IsComplete}
use Rattle.lab_model.specs.Report.{report, text_line}
use Rattle.lab_model.specs.Scenario.{Scenario}
use Rattle.lab_model.specs.State.{State}
use Rattle.lab_rulebook.specs.IsAccepted.{Verified}
use Rattle.lab_runner.specs.Counts.{CountsTurns}
use Rattle.dmlab_run.specs.AllParts.{IsAllOutput}
use Rattle.dmlab_run.specs.Lines.{Output, done_with}
use Rattle.dmlab_run.specs.Output.{Answers, IsOutput, history_part}
use Rattle.dmlab_run.specs.Studies.{IsStudyOutput}
use Rattle.dmlab_words.specs.declared.work.Work.{Work}
use Rattle.dmlab_words.specs.declared.work.Work.TheVariants.{Alone, CheckAll, Study, Threads}

-- `fired L.. S T swept K`: the workers' counts, and how many events came after the workers had
-- ended
abbrev pub fired_line : List ℕ → ℕ → List ℕ
fired_line counts swept =
    text_line (codes "fired" ++ spaced_numbers counts ++ codes " swept " ++ decimal swept)

module _ {S : Type 0} (m : Meaning S) where
  -- the text is the report of a complete run, which begins with the workers' events, with their
  -- counts
  pub record RunsByThreads (c : Scenario S) (asked : Bool) (text : List ℕ) : Type 0 where
    pub events : List Event
    pub swept : List Event
    pub end : State S
    pub counts : List ℕ
    pub complete : IsComplete m c (events ++ swept) end
    pub counted : CountsTurns m c events counts
    pub told : text ≡ report m c (events ++ swept) end ++ fired_line counts (length swept)
        ++ history_part asked (events ++ swept)

  -- a run of an accepted scenario by threads is done, and its text is told
  abbrev pub TellsThreads : Bool → Verified S → List Event → Output → Type 0
  TellsThreads asked accepted events told =
      (told ≡ done_with told.text) × RunsByThreads accepted.scenario asked told.text

  -- the whole output of a run by threads on these bytes, which reads no history
  abbrev pub IsThreadsOutput : Bool → List ℕ → Output → Type 0
  IsThreadsOutput asked bytes told = Answers m bytes (Ok []) (TellsThreads asked) told

-- the whole output of what the words ask for
abbrev pub IsOutputOf : {S : Type 0} → Meaning S → Work → List ℕ → Output → Type 0
IsOutputOf m (Alone job) = IsOutput m job
IsOutputOf m CheckAll = IsAllOutput m
IsOutputOf m (Threads asked) = IsThreadsOutput m asked
IsOutputOf m (Study study) = IsStudyOutput m study
