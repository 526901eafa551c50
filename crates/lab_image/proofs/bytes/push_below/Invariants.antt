-- What was appended and what is left to look at make the whole.
use Rattle.std.proofs.Common.{◌≡◌, ◌++◌, drop}
use Rattle.lab_image.specs.Changes.{marks_below}
use Rattle.lab_image.proofs.bytes.push_below.Given as goal

abbrev pub invariant-loop-mark : goal.invariant-loop-mark
invariant-loop-mark l = l.out.items ++ marks_below l.byte (drop l.mark-index l.marks)
    ≡ l.fn.out.items ++ marks_below l.fn.byte l.fn.marks
