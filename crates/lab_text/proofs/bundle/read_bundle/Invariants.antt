-- The parts up to the spot are read, and the text that is left gets shorter part by part.
use Rattle.std.proofs.Common.{length}
use Rattle.lab_text.proofs.PartsLemmas.{ReadsParts}
use Rattle.lab_text.proofs.bundle.read_bundle.Given as goal

abbrev pub invariant-loop-line : goal.invariant-loop-line
invariant-loop-line l = ReadsParts l.fn.bytes l.spot.rest.now l.spot.number l.draft

abbrev pub decreases-loop-line : goal.decreases-loop-line
decreases-loop-line l = length l.spot.rest.now
