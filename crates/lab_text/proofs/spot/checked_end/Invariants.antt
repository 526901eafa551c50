-- The lines up to the spot are read, and the text that is left gets shorter line by line.
use Rattle.std.proofs.Common.{length}
use Rattle.lab_text.proofs.ReadingLemmas.{ReadsBody}
use Rattle.lab_text.proofs.spot.checked_end.Given as goal

abbrev pub invariant-loop-line : goal.invariant-loop-line
invariant-loop-line l =
    ReadsBody l.in_part l.fn.start.rest.now l.fn.start.number l.spot.rest.now l.spot.number

abbrev pub decreases-loop-line : goal.decreases-loop-line
decreases-loop-line l = length l.spot.rest.now
