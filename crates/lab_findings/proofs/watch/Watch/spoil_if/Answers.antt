-- All that the bio writes is the byte that was asked for.
use Rattle.lab_findings.proofs.Spoils.{nothing-spoiled, same-fill}
use Rattle.lab_findings.proofs.watch.Watch.spoil_if.Goals as goal

pub returns-then-eq : goal.returns-then-eq
returns-then-eq g c =
    let byte = c.fill_of-byte.result in
    let sectors = c.args.bio.now.sectors in
    rw c.in-Some.is (nothing-spoiled g.T.Target.meaning c.args.state.now c.args.self.now
    c.args.number c.in-Some.root sectors byte c.fill_of-byte.ensures
    (same-fill c.fill.result byte sectors c.if-eq.ensures c.fill.ensures))
