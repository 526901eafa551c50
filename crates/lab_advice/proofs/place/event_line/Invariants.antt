use Rattle.std.proofs.Common.{◌≡◌, ◌+◌, ◌<◌, ◌^◌, length}
use Rattle.lab_text.specs.Lines.{lines_left}
use Rattle.lab_advice.specs.Places.{event_line, event_among}
use Rattle.lab_advice.proofs.place.event_line.Given as goal

-- the event is on one of the lines that are left, behind so many others
abbrev pub invariant-loop-line : goal.invariant-loop-line
invariant-loop-line l =
    (goal.iterator-loop-line).can_next l.line-iterator
    × (goal.iterator-loop-line).is_finite l.line-iterator
    × (event_line l.fn.bytes l.event
    ≡ event_among (l.within + 1) l.before (lines_left l.line-iterator))
    × (l.within + length (lines_left l.line-iterator) < 2 ^ 64)
