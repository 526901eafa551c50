use Rattle.lab_model.proofs.Common.{◌≡◌, ◌+◌, ◌<◌, ◌^◌, length, All}
use Rattle.lab_text.specs.Lines.{lines_left}
use Rattle.lab_text.specs.Rows.{with_front}
use Rattle.lab_script.specs.Task.{IsBounded}
use Rattle.lab_script.specs.Script.{script_of, script_rows}
use Rattle.lab_script.proofs.Rows.{rows_from}
use Rattle.lab_script.proofs.reader.read_script.Given as goal

-- the rows so far and those of the lines that are left are the script
abbrev pub invariant-loop-line : goal.invariant-loop-line
invariant-loop-line l =
    (goal.iterator-loop-line).can_next l.line-iterator
    × (goal.iterator-loop-line).is_finite l.line-iterator
    × (script_of l.fn.text
    ≡ with_front (script_rows l.lines.items)
    (rows_from l.may_declare l.number (lines_left l.line-iterator)))
    × (l.number + length (lines_left l.line-iterator) < 2 ^ 64)
    × All (λ line. IsBounded line.command) l.lines.items
