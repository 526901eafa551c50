-- One byte more is written.
use Rattle.lab_sweep.proofs.FoundRows.{type-more}
use Rattle.lab_sweep.proofs.columns.push_type.Goals as goal

pub loop-byte-preserved : goal.loop-byte-preserved
loop-byte-preserved c =
    type-more c.loop-byte.text.items c.push-in-loop-byte.new.self.items c.args.bytes.now _
    c.loop-byte.byte-index c.loop-byte-test.true c.if-byte-eq0.false
    c.in_ok-push-2.ensures.items c.loop-byte.invariant
