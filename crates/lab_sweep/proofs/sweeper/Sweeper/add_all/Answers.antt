-- The last seed's outcome comes after the others.
use Rattle.lab_model.proofs.Common.{rules, arith, length-append}
use Rattle.lab_sweep.proofs.Running.{outcomes-more}
use Rattle.lab_sweep.proofs.sweeper.Sweeper.add_all.Goals as goal

pub returns-clause-each : goal.returns-clause-each
returns-clause-each g c =
    let m = g.T.Target.meaning in
    let scenario = c.args.accepted.scenario in
    let before = c.in_ok-accepted.ensures in
    let told = c.in_ok-back.ensures.told in
    rw told.2 (outcomes-more m scenario c.args.seeds.prompt c.args.self.now.disks
    c.args.seeds.first c.args.seeds.last c.add_before.new.self.outcomes.items told.0 before.each (omega (arith, before.count))
    (rw (before.back, before.disks) at told.1))

-- there is one more
pub returns-clause-count : goal.returns-clause-count
returns-clause-count g c = search (rules, length-append)
