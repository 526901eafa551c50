use Rattle.lab_model.proofs.Common.{◌≡◌, ◌+◌, ◌<◌, ◌^◌, length, All}
use Rattle.lab_text.specs.Lines.{lines_left}
use Rattle.lab_text.specs.Rows.{with_front}
use Rattle.lab_iolog.specs.Line.{IsBounded}
use Rattle.lab_iolog.specs.Log.{log_of, log_rows}
use Rattle.lab_iolog.proofs.Rows.{rows_from}
use Rattle.lab_iolog.proofs.reader.read_log.Given as goal

-- the rows so far and those of the lines that are left are the log
abbrev pub invariant-loop-line : goal.invariant-loop-line
invariant-loop-line l =
    (goal.iterator-loop-line).can_next l.line-iterator
    × (goal.iterator-loop-line).is_finite l.line-iterator
    × (log_of l.fn.text
    ≡ with_front (log_rows l.lines.items)
    (rows_from (length l.lines.items) l.number (lines_left l.line-iterator)))
    × (l.number + length (lines_left l.line-iterator) < 2 ^ 64)
    × All (λ line. IsBounded line.entry) l.lines.items
