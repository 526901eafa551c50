-- What an event did, as a trace tells it by the states before and after it (this project's own).
use Rattle.std.specs.Prelude.{ℕ, true, false, Bool, List, [], ◌++◌, Option, Some, None, length}
use Rattle.std.specs.Prelude.{slice_get, codes, decimal}
use Rattle.lab_model.specs.declared.entry.Entry.{Entry}
use Rattle.lab_model.specs.declared.entry.Entry.TheVariants.{Add, Open, Close, Wait, Operate}
use Rattle.lab_model.specs.declared.event.Event.{Event}
use Rattle.lab_model.specs.declared.event.Event.TheVariants.{Line, Map, Serve, Release}
use Rattle.lab_model.specs.declared.event.Event.TheVariants.{Finish, Control, Clock}
use Rattle.lab_model.specs.Report.{action_word}
use Rattle.lab_model.specs.Scenario.{Scenario}
use Rattle.lab_model.specs.declared.plan.LogLine.{LogLine}
use Rattle.lab_model.specs.State.{State, bio_of}
use Rattle.lab_next.specs.Answering.{has_failed}
use Rattle.lab_trace.specs.Made.{map_text}
use Rattle.lab_trace.specs.Micros.{micro_word}
use Rattle.lab_trace.specs.Rows.{line_to_take}

-- the word of what a line asks for; a wait's with its microseconds
abbrev pub entry_word : Entry → List ℕ
entry_word Add = codes "add"
entry_word Open = codes "open"
entry_word Close = codes "close"
entry_word (Wait time) = codes "wait " ++ decimal time
entry_word (Operate action span) = action_word action

-- the word of a line, if there is one
abbrev pub line_word : Option LogLine → List ℕ
line_word None = []
line_word (Some line) = entry_word line.entry

-- how a bio is answered
abbrev pub answer_word : Bool → List ℕ
answer_word true = codes "EIO"
answer_word false = codes "ok"

-- what is known of an event before it is fired
abbrev pub told_before : {S : Type 0} → Scenario S → State S → Event → List ℕ
told_before c s (Line log) = line_word (line_to_take c s log)
told_before c s (Map number) = []
told_before c s (Serve number) = codes "served"
told_before c s (Release number) = codes "released"
told_before c s (Finish number) = answer_word (has_failed (bio_of s number))
told_before c s Control = micro_word (slice_get c.micros s.done)
told_before c s Clock = []

-- what is known of an event once it was fired, where so many bios were made before: the bios that
-- a map made, and the moment that the clock went to
abbrev pub told_after : {S : Type 0} → ℕ → State S → Event → List ℕ
told_after before next (Map number) = map_text before next number
told_after before next Clock = codes "to " ++ decimal next.clock
told_after before next _ = []

-- what an event did
abbrev pub happened : {S : Type 0} → Scenario S → State S → State S → Event → List ℕ
happened c s next event = told_before c s event ++ told_after (length s.bios) next event
