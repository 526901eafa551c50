-- The byte of both is the same.
use Rattle.lab_trace.proofs.WrittenSteps.{same-filled}
use Rattle.lab_trace.proofs.written.same_fill.Goals as goal

-- so nothing is told
pub returns-in-Some-Some : goal.returns-in-Some-Some
returns-in-Some-Some c = same-filled c.args.asked.now c.args.child.now.sectors c.in-Some-Some.before
    c.in-Some-Some.after c.in-Some-Some.ensures c.in-Some-Some.ensures'
