use Rattle.lab_model.proofs.Common.{◌≡◌, ◌+◌, ◌<◌, ◌^◌, length}
use Rattle.lab_text.specs.Lines.{lines_left}
use Rattle.lab_text.specs.Rows.{with_front}
use Rattle.lab_history.specs.History.{history_of}
use Rattle.lab_history.proofs.PrintedLemmas.{events_from}
use Rattle.lab_history.proofs.reader.read_history.Given as goal

-- the events so far and those on the lines that are left are the history
abbrev pub invariant-loop-line : goal.invariant-loop-line
invariant-loop-line l =
    (goal.iterator-loop-line).can_next l.line-iterator
    × (goal.iterator-loop-line).is_finite l.line-iterator
    × (history_of l.fn.text
    ≡ with_front l.events.items (events_from l.number (lines_left l.line-iterator)))
    × (l.number + length (lines_left l.line-iterator) < 2 ^ 64)
