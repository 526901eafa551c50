-- What a row of a trace holds of a bio, of the operation that it comes from and of a log's line (this
-- project's own).
use Rattle.std.specs.Prelude.{ℕ, Option, Some, None}
use Rattle.lab_model.specs.declared.entry.Entry.{Entry}
use Rattle.lab_model.specs.declared.entry.Entry.TheVariants.{Operate}
use Rattle.lab_model.specs.Bios.{Bio}
use Rattle.lab_model.specs.declared.parent.Parent.{Parent}
use Rattle.lab_model.specs.declared.parent.Parent.TheVariants.{FromLog, FromBio}
use Rattle.lab_model.specs.LogEffect.{kind_of}
use Rattle.lab_model.specs.declared.plan.LogLine.{LogLine}
use Rattle.lab_next.specs.declared.origin.Origin.{Origin}
use Rattle.lab_trace.specs.declared.row.TraceRow.{TraceRow}

-- the number of the bio that a parent is, if it is one
abbrev pub above : Parent → Option ℕ
above (FromLog log line action) = None
above (FromBio number piece) = Some number

-- the row with the bio of a number; what it asks for is told where it lives
abbrev pub row_with_bio : TraceRow → ℕ → Option Bio → TraceRow
row_with_bio row number None = record row { bio = Some number }
row_with_bio row number (Some bio) = record row {
  bio = Some number;
  parent = above bio.parent;
  kind = Some bio.kind;
  device = Some bio.device;
  span = Some bio.span;
}

-- the row with the log and the line that its bio comes from
abbrev pub with_origin : TraceRow → Option Origin → TraceRow
with_origin row None = row
with_origin row (Some origin) = record row { log = Some origin.log; line = Some origin.line }

-- the row with what a line asks for: an operation makes the bio of this number, no other line
-- makes one
abbrev pub entry_row : TraceRow → ℕ → Entry → TraceRow
entry_row row next (Operate action span) =
    record row { bio = Some next; kind = Some (kind_of action); span = Some span }
entry_row row next _ = row

-- the row with a log's line: its number, its file's device, and what it asks for
abbrev pub with_line : TraceRow → ℕ → Option LogLine → TraceRow
with_line row next None = row
with_line row next (Some line) =
    entry_row (record row { line = Some line.number; device = line.device }) next line.entry
