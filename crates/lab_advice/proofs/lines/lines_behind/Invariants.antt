use Rattle.std.proofs.Common.{◌≡◌, drop}
use Rattle.lab_text.specs.Lines.{lines_left, lines_of}
use Rattle.lab_advice.proofs.lines.lines_behind.Given as goal

-- so many lines are passed
abbrev pub invariant-loop-passed : goal.invariant-loop-passed
invariant-loop-passed l = lines_left l.lines ≡ drop l._passed (lines_of l.bytes)
