-- An accepted scenario runs well, and its runs stay bounded.
use Rattle.lab_core.proofs.Known.{stays-bounded, runs-well}
use Rattle.lab_core.proofs.lab.Lab.scenario.Goals as goal

-- it runs well
pub returns-clause-runs_well : goal.returns-clause-runs_well
returns-clause-runs_well g c = runs-well g.T.Target.meaning g.met.T.Target.lawful c.args.self.now
    (rw c.self.view_is at c.self.invariant.running)

-- its runs stay bounded
pub returns-clause-bounded : goal.returns-clause-bounded
returns-clause-bounded g c = stays-bounded g.T.Target.meaning g.met.T.Target.lawful c.args.self.now
    (rw c.self.view_is at c.self.invariant.running)
