use Rattle.std.proofs.Common.{◌≡◌, ◌+◌, ◌<◌, ◌^◌, length}
use Rattle.lab_text.specs.Lines.{lines_left}
use Rattle.lab_advice.specs.Places.{first_line_from, first_opening, opens}
use Rattle.lab_advice.proofs.lines.first_opening.Given as goal

-- no line so far opens the part: the first is among those that are left
abbrev pub invariant-loop-line : goal.invariant-loop-line
invariant-loop-line l =
    (goal.iterator-loop-line).can_next l.line-iterator
    × (goal.iterator-loop-line).is_finite l.line-iterator
    × (first_opening l.bytes l.part
    ≡ first_line_from (λ _ line. opens l.part line) (l.at + 1) (lines_left l.line-iterator))
    × (l.at + length (lines_left l.line-iterator) < 2 ^ 64)
