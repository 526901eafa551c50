-- The trace of a run: a line for each of its events (this project's own).
use Rattle.std.specs.Prelude.{◌≡◌, ℕ, ◌+◌, List, [], ◌∷◌, ◌++◌, codes}
use Rattle.lab_target.specs.Meaning.{Meaning}
use Rattle.lab_model.specs.declared.event.Event.{Event}
use Rattle.lab_model.specs.After.{Next}
use Rattle.lab_model.specs.Effect.{effect}
use Rattle.lab_model.specs.Report.{text_line}
use Rattle.lab_model.specs.Scenario.{Scenario}
use Rattle.lab_model.specs.State.{State, opening}
use Rattle.lab_next.specs.Answering.{kind_answered}
use Rattle.lab_watch.specs.Drops.{known_next}
use Rattle.lab_watch.specs.Heard.{heard}
use Rattle.lab_watch.specs.Known.{Known, all_kept, nothing_known}
use Rattle.lab_watch.specs.Settled.{told}
use Rattle.lab_trace.specs.Answered.{answer_columns}
use Rattle.lab_trace.specs.Happened.{happened}
use Rattle.lab_trace.specs.Rows.{event_row}
use Rattle.lab_trace.specs.Text.{row_text}

-- the names of the columns
abbrev pub head_text : List ℕ
head_text = codes "place" ++ 9 ∷ codes "clock" ++ 9 ∷ codes "event" ++ 9 ∷ codes "log" ++ 9
    ∷ codes "line" ++ 9 ∷ codes "bio" ++ 9 ∷ codes "parent" ++ 9 ∷ codes "kind" ++ 9
    ∷ codes "device" ++ 9 ∷ codes "sectors" ++ 9 ∷ codes "happened" ++ 9 ∷ codes "writers"

-- what is told of an event that leads from a state to the next one, but for whom an answer comes
-- from
abbrev pub begun_columns : {S : Type 0} → Scenario S → State S → State S → ℕ → Event → List ℕ
begun_columns c s next place event =
    row_text (event_row c s place event) ++ 9 ∷ happened c s next event

-- what is told of an event's answer, where so much is known of who wrote what once its bio is served
abbrev pub ended_columns : {S : Type 0} → State S → Known → Event → List ℕ
ended_columns s known event = answer_columns (kind_answered s event) (told s event known)

-- the columns of the event at a place of a run, that leads from a state to the next one, where so
-- much is known of who wrote what before it
abbrev pub told_columns : {S : Type 0} → Scenario S → State S → Known → State S → ℕ → Event → List ℕ
told_columns c s known next place event =
    begun_columns c s next place event ++ ended_columns s (heard s event known) event

-- the lines of events that are fired one after another, of which the first has this place, where so
-- much is known of who wrote what before them
abbrev pub Traces : {S : Type 0} → Meaning S → Scenario S → State S → Known → ℕ → List Event
    → List ℕ → Type 0
Traces m c s known place [] text = text ≡ []
Traces {S} m c s known place (event ∷ events) text = (next : State S)
    × (effect m c s event ≡ Next next) × (rest : List ℕ)
    × (text ≡ text_line (told_columns c s known next place event) ++ rest)
    × Traces m c next (known_next m s next known event) (place + 1) events rest

-- a text has the lines of such events behind another text
abbrev pub TracesOn : {S : Type 0} → Meaning S → Scenario S → State S → Known → ℕ → List Event
    → List ℕ → List ℕ → Type 0
TracesOn m c s known place events before text =
    (rows : List ℕ) × (text ≡ before ++ rows) × Traces m c s known place events rows

-- a text is the trace of events that are fired from a scenario's opening on: the columns' names,
-- and a line for each event, of which the first has the place 1
abbrev pub IsTraceOf : {S : Type 0} → Meaning S → Scenario S → List Event → List ℕ → Type 0
IsTraceOf m c events text =
    TracesOn m c (opening c) (nothing_known all_kept) 1 events (text_line head_text) text
