-- Words that the examples share: histories, and what is known after one (this project's own).
use Prim.Native.String.{String}
use Rattle.std.specs.Prelude.{ℕ, ◌+◌, Bool, false, List, [], ◌∷◌, ◌++◌, map, replicate}
use Rattle.std.specs.Prelude.{Option, Some, None, codes, is_some, option_map, if◌then◌else◌}
use Rattle.std.specs.List.{flat_map}
use Rattle.lab_text.specs.declared.run.Run.{Run}
use Rattle.lab_target.specs.Meaning.{Meaning}
use Rattle.lab_model.specs.declared.answer.Answer.{Answer}
use Rattle.lab_model.specs.declared.answer.Outcome.{Outcome}
use Rattle.lab_model.specs.declared.entry.Action.{Action}
use Rattle.lab_model.specs.declared.event.Event.{Event}
use Rattle.lab_model.specs.declared.event.Event.TheVariants.{Line, Map, Serve, Finish, Control}
use Rattle.lab_model.specs.Effect.{state_after}
use Rattle.lab_model.specs.Guard.{is_done}
use Rattle.lab_model.specs.Report.{report, text_line}
use Rattle.lab_model.specs.Scenario.{Scenario}
use Rattle.lab_model.specs.State.{State, opening}

-- so many steps of the script
abbrev pub controls : ℕ → List Event
controls count = replicate count Control

-- a log takes its first three lines: it adds its file, opens it, and begins what it does
abbrev pub first_lines : ℕ → List Event
first_lines log = Line log ∷ Line log ∷ Line log ∷ []

-- device 0 is created, the logs start, and the first operation of log 1 enters its device as bio 1
abbrev pub entered : List Event
entered = Control ∷ Control ∷ first_lines 1

-- that operation is cut into its pieces, and each is judged
abbrev pub mapped : List Event
mapped = entered ++ Map 1 ∷ []

-- a bio of one piece is mapped, its piece is served, which is the next bio, and it is answered
abbrev pub through : ℕ → List Event
through bio = Map bio ∷ Serve (bio + 1) ∷ Finish bio ∷ []

-- the state after a history, if it is one
abbrev pub reached : {S : Type 0} → Meaning S → Scenario S → List Event → Option (State S)
reached m c history = state_after m c history (Some (opening c))

-- whether a history leads anywhere: each event may come where it stands, and none is wrong
abbrev pub leads : {S : Type 0} → Meaning S → Scenario S → List Event → Bool
leads m c history = is_some (reached m c history)

-- whether there is a state, and all is done in it
abbrev pub done_at : {S : Type 0} → Scenario S → Option (State S) → Bool
done_at c None = false
done_at c (Some s) = is_done c s

-- whether a history is a complete run
abbrev pub ends : {S : Type 0} → Meaning S → Scenario S → List Event → Bool
ends m c history = done_at c (reached m c history)

-- the report of a history in whose end this state stands, if there is one and all is done in it
abbrev pub report_at : {S : Type 0} → Meaning S → Scenario S → List Event → Option (State S)
    → Option (List ℕ)
report_at m c history state =
    if done_at c state then option_map (report m c history) state else None

-- the report of a history, if it is a complete run
abbrev pub reported : {S : Type 0} → Meaning S → Scenario S → List Event → Option (List ℕ)
reported m c history = report_at m c history (reached m c history)

-- a text of these lines
abbrev pub lines : List String → Option (List ℕ)
lines texts = Some (flat_map (λ text. text_line (codes text)) texts)

-- the answers of each log in a state; none where there is no state
abbrev pub answers_in : {S : Type 0} → Option (State S) → List (List Answer)
answers_in None = []
answers_in (Some s) = map (λ log. log.answers) s.logs

-- the answer to an operation on a line of the log
abbrev pub answer : ℕ → Action → Outcome → Answer
answer line action outcome = record { line = line; action = action; outcome = outcome }

-- so many bytes of one value
abbrev pub run : ℕ → ℕ → Run
run count value = record { count = count; value = value }
