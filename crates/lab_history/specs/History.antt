-- Histories: the events of a run as text, one on each line (this project's own).
use Rattle.std.specs.List.{flat_map}
use Rattle.std.specs.Prelude.{ℕ, ◌&&◌, nat_le, if◌then◌else◌, List, [], ◌∷◌, ◌++◌, map, Option, Some, None, Result, codes, decimal}
use Rattle.std.specs.Option.{ok_or, option_and_then}
use Rattle.std.specs.Str.{bytes_eq}
use Rattle.lab_text.specs.Lines.{lines_of, kept_from}
use Rattle.lab_text.specs.Numbers.{number_to}
use Rattle.lab_text.specs.Rows.{all_rows}
use Rattle.lab_text.specs.Words.{words_of}
use Rattle.lab_model.specs.declared.event.Event.{Event}
use Rattle.lab_model.specs.declared.event.Event.TheVariants.{Line, Map, Serve, Release}
use Rattle.lab_model.specs.declared.event.Event.TheVariants.{Finish, Control, Clock}
use Rattle.lab_history.specs.declared.fault.HistoryFault.{HistoryFault}
use Rattle.lab_history.specs.declared.fault.HistoryFault.TheVariants as faults

-- the text of an event: its name and, but for the script's and the clock's, its number
abbrev pub event_text : Event → List ℕ
event_text (Line log) = codes "line " ++ decimal log
event_text (Map bio) = codes "map " ++ decimal bio
event_text (Serve bio) = codes "serve " ++ decimal bio
event_text (Release bio) = codes "release " ++ decimal bio
event_text (Finish bio) = codes "finish " ++ decimal bio
event_text Control = codes "control"
event_text Clock = codes "clock"

-- the text of some events: a line of each
abbrev pub history_text : List Event → List ℕ
history_text events = flat_map (λ event. event_text event ++ 10 ∷ []) events

-- the event of this name that has no number
abbrev pub bare_event : List ℕ → Option Event
bare_event word =
    if bytes_eq word (codes "control") then Some Control
    else if bytes_eq word (codes "clock") then Some Clock
    else None

-- the event of this name and number; a log's number has 32 bits
abbrev pub numbered_event : List ℕ → ℕ → Option Event
numbered_event word number =
    if bytes_eq word (codes "line") && nat_le number 4294967295 then Some (Line number)
    else if bytes_eq word (codes "map") then Some (Map number)
    else if bytes_eq word (codes "serve") then Some (Serve number)
    else if bytes_eq word (codes "release") then Some (Release number)
    else if bytes_eq word (codes "finish") then Some (Finish number)
    else None

-- the event that a line of these words names; a number has 64 bits
abbrev pub event_of : List (List ℕ) → Option Event
event_of (word ∷ []) = bare_event word
event_of (word ∷ number ∷ []) =
    option_and_then (numbered_event word) (number_to 18446744073709551615 number)
event_of _ = None

-- the event on a line with its number, or its fault
abbrev pub line_event : ℕ × List ℕ → Result Event HistoryFault
line_event (n, line) = ok_or (event_of (words_of line)) (faults.BadLine n)

-- the events that a text tells, or its first fault
abbrev pub history_of : List ℕ → Result (List Event) HistoryFault
history_of text = all_rows (map line_event (kept_from 1 (lines_of text)))
