-- A log that takes a line (fio's manual, trace file format version 2).
use Rattle.std.specs.Prelude.{ℕ, [], ◌∷◌, ◌++◌, Option, Some, None}
use Rattle.lab_sector.specs.declared.span.Span.{Span}
use Rattle.lab_model.specs.declared.entry.Action.{Action}
use Rattle.lab_model.specs.declared.entry.Entry.{Entry}
use Rattle.lab_model.specs.declared.entry.Entry.TheVariants.{Operate}
use Rattle.lab_model.specs.After.{After, where_there}
use Rattle.lab_model.specs.Bios.{Bio}
use Rattle.lab_model.specs.Lists.{numbered}
use Rattle.lab_model.specs.LogEffect.{line_effect, with_log}
use Rattle.lab_model.specs.declared.plan.LogLine.{LogLine}
use Rattle.lab_model.specs.State.{State}

-- the operation that an entry asks for, if it asks for one
abbrev pub operation_of : Entry → Option (Action × Span)
operation_of (Operate action span) = Some (action, span)
operation_of _ = None

-- the state after a log has taken the line of an operation: its bio enters its device
abbrev pub with_bio : {S : Type 0} → State S → ℕ → Bio → State S
with_bio s number bio = record (with_log s number (λ log. log)) { bios = s.bios ++ Some bio ∷ [] }

-- a line of the log of a number
abbrev pub line_at_log : {S : Type 0} → State S → ℕ → LogLine → After S
line_at_log s number line =
    where_there s (numbered s.logs number) (λ log. line_effect s number log line line.entry)
