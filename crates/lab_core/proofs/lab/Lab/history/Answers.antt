-- The events are a run.
use Rattle.lab_core.proofs.Known.{stands-well}
use Rattle.lab_core.proofs.lab.Lab.history.Goals as goal

pub returns-clause-running : goal.returns-clause-running
returns-clause-running g c = rw c.self.view_is at c.self.invariant.running

-- and all that is promised of runs holds of them
pub returns-clause-stands : goal.returns-clause-stands
returns-clause-stands g c = stands-well g.T.Target.meaning g.met.T.Target.lawful c.args.self.now
    (returns-clause-running g c)
