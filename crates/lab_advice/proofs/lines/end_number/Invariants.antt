use Rattle.std.proofs.Common.{◌≡◌, ◌+◌, ◌<◌, ◌&&◌, ◌^◌, length, unwrap_or}
use Rattle.std.specs.Prelude.{nat_lt}
use Rattle.lab_text.specs.Bundle.{is_heading}
use Rattle.lab_text.specs.Lines.{lines_left}
use Rattle.lab_advice.specs.Places.{end_number, first_line_from}
use Rattle.lab_advice.proofs.lines.end_number.Given as goal

-- no line so far is a heading behind that one: the first is among those that are left
abbrev pub invariant-loop-line : goal.invariant-loop-line
invariant-loop-line l =
    (goal.iterator-loop-line).can_next l.line-iterator
    × (goal.iterator-loop-line).is_finite l.line-iterator
    × (end_number l.bytes l.number
    ≡ unwrap_or
    (first_line_from (λ n line. nat_lt l.number n && is_heading line) (l.at + 1)
    (lines_left l.line-iterator))
    (length (lines_left l.line-iterator) + (l.at + 1)))
    × (l.at + length (lines_left l.line-iterator) < 2 ^ 63)
