-- The law holds of each lawful meaning, and the target's own is lawful.
use Rattle.law_needs_met.proofs.AllReady.{runs-ready}
use Rattle.law_needs_met.proofs.runs_are_ready.Goals as goal

pub returns : goal.returns
returns g start = runs-ready g.T.Target.meaning g.met.T.Target.lawful
