-- What a trace tells of an event, in the state in which it comes (this project's own).
use Rattle.std.specs.Prelude.{ℕ, suc, length, slice_get, Option, Some, None, option_and_then}
use Rattle.lab_model.specs.declared.event.Event.{Event}
use Rattle.lab_model.specs.declared.event.Event.TheVariants.{Line, Map, Serve, Release}
use Rattle.lab_model.specs.declared.event.Event.TheVariants.{Finish, Control, Clock}
use Rattle.lab_model.specs.Lists.{numbered}
use Rattle.lab_model.specs.Scenario.{Scenario}
use Rattle.lab_model.specs.declared.plan.LogLine.{LogLine}
use Rattle.lab_model.specs.State.{State, bio_of}
use Rattle.lab_next.specs.Origins.{origin_of}
use Rattle.lab_trace.specs.declared.row.TraceRow.{TraceRow}
use Rattle.lab_trace.specs.Fields.{row_with_bio, with_line, with_origin}
use Rattle.lab_trace.specs.Micros.{with_micro}

-- the row of an event that is no log's, no bio's and not the script's
abbrev pub start_of : {S : Type 0} → State S → ℕ → Event → TraceRow
start_of s place event = record {
  place = place;
  clock = s.clock;
  event = event;
  log = None;
  line = None;
  bio = None;
  parent = None;
  kind = None;
  device = None;
  span = None;
}

-- the row with the bio of a number, and with the operation that it comes from
abbrev pub bio_row : {S : Type 0} → State S → TraceRow → ℕ → TraceRow
bio_row s row number = with_origin (row_with_bio row number (bio_of s number)) (origin_of s number)

-- the number that the next bio gets; bios are numbered from 1
abbrev pub next_number : {S : Type 0} → State S → ℕ
next_number s = suc (length s.bios)

-- the line that the log of a number takes next
abbrev pub line_to_take : {S : Type 0} → Scenario S → State S → ℕ → Option LogLine
line_to_take c s number =
    option_and_then (λ plan. option_and_then (λ log. slice_get plan.lines log.taken)
    (numbered s.logs number)) (numbered c.logs number)

-- the row with a log, and with the line that it takes next
abbrev pub log_row : {S : Type 0} → Scenario S → State S → TraceRow → ℕ → TraceRow
log_row c s row log =
    with_line (record row { log = Some log }) (next_number s) (line_to_take c s log)

-- the row with the script's next micro-command
abbrev pub control_row : {S : Type 0} → Scenario S → State S → TraceRow → TraceRow
control_row c s row = with_micro row (slice_get c.micros s.done)

-- the row with what an event names: a log with its next line, a bio, or the script's next
-- micro-command
abbrev pub named_row : {S : Type 0} → Scenario S → State S → TraceRow → Event → TraceRow
named_row c s row (Line log) = log_row c s row log
named_row c s row (Map number) = bio_row s row number
named_row c s row (Serve number) = bio_row s row number
named_row c s row (Release number) = bio_row s row number
named_row c s row (Finish number) = bio_row s row number
named_row c s row Control = control_row c s row
named_row c s row Clock = row

-- the row of the event at a place of a run, in the state in which it comes
abbrev pub event_row : {S : Type 0} → Scenario S → State S → ℕ → Event → TraceRow
event_row c s place event = named_row c s (start_of s place event) event
