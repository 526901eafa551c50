use Rattle.std.proofs.Common.{◌≡◌, ◌+◌, ◌<◌, ◌++◌, ◌^◌, length, flat_map}
use Rattle.std.specs.List.{enumerate_from}
use Rattle.lab_text.specs.Lines.{lines_left}
use Rattle.lab_advice.specs.Mended.{line_mended, mended_text, rest_mended}
use Rattle.lab_advice.proofs.mended.mended_bytes.Given as goal

-- what is written and the lines that are left make the whole text
abbrev pub invariant-loop-line : goal.invariant-loop-line
invariant-loop-line l =
    (goal.iterator-loop-line).can_next l.line-iterator
    × (goal.iterator-loop-line).is_finite l.line-iterator
    × (l.text.items ++ (flat_map (λ numbered. line_mended l.mend numbered.0 numbered.1)
    (enumerate_from (l.at + 1) (lines_left l.line-iterator))
    ++ rest_mended l.mend (length (lines_left l.line-iterator) + l.at))
    ≡ mended_text l.bytes l.mend)
    × (l.at + length (lines_left l.line-iterator) < 2 ^ 64)
