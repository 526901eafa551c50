-- What the parts that are left add is what is still to be put down.
use Rattle.lab_model.proofs.Common.{◌≡◌, drop, fold}
use Rattle.lab_findings.specs.Mapped.{owned}
use Rattle.lab_findings.proofs.watch.Watch.own.Given as goal

abbrev pub invariant-loop-part : goal.invariant-loop-part
invariant-loop-part g l =
    fold (owned g.T.Target.meaning l.state l.device l.kind l.root) l.self (drop l.part-index l.parts)
    ≡ fold (owned g.T.Target.meaning l.state l.device l.kind l.root) l.fn.self l.fn.parts
