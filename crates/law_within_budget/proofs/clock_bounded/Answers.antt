-- The law holds of each lawful meaning, and the target's own is lawful.
use Rattle.law_within_budget.proofs.Within.{runs-bound-clock}
use Rattle.law_within_budget.proofs.clock_bounded.Goals as goal

pub returns : goal.returns
returns g c = runs-bound-clock g.T.Target.meaning g.met.T.Target.lawful
