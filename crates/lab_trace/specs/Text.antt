-- A row of a trace as text: its ten columns with a tab between two (this project's own).
use Rattle.std.specs.Prelude.{ℕ, List, ◌∷◌, ◌++◌, codes, decimal}
use Rattle.lab_history.specs.History.{event_text}
use Rattle.lab_sector.specs.declared.request.Kind.{Kind}
use Rattle.lab_sector.specs.declared.request.Kind.TheVariants.{Read, Write, Trim, Flush}
use Rattle.lab_sector.specs.declared.span.Span.{Span}
use Rattle.lab_core.specs.Columns.{device_word, or_dash}
use Rattle.lab_trace.specs.declared.row.TraceRow.{TraceRow}

-- the word of a kind of request
abbrev pub kind_word : Kind → List ℕ
kind_word Read = codes "read"
kind_word Write = codes "write"
kind_word Trim = codes "trim"
kind_word Flush = codes "flush"

-- `FIRST+COUNT`
abbrev pub span_text : Span → List ℕ
span_text span = decimal span.first ++ codes "+" ++ decimal span.len

-- the event's place, the clock, and the event as a history writes it
abbrev pub event_columns : TraceRow → List ℕ
event_columns row = decimal row.place ++ 9 ∷ decimal row.clock ++ 9 ∷ event_text row.event

-- the log, its line, the bio, and the bio that this one is a piece of
abbrev pub origin_columns : TraceRow → List ℕ
origin_columns row =
    or_dash decimal row.log ++ 9 ∷ or_dash decimal row.line ++ 9 ∷ or_dash decimal row.bio ++ 9
    ∷ or_dash decimal row.parent

-- the kind, the device and the sectors
abbrev pub request_columns : TraceRow → List ℕ
request_columns row =
    or_dash kind_word row.kind ++ 9 ∷ or_dash device_word row.device ++ 9
    ∷ or_dash span_text row.span

-- all columns
abbrev pub row_text : TraceRow → List ℕ
row_text row = event_columns row ++ 9 ∷ origin_columns row ++ 9 ∷ request_columns row
