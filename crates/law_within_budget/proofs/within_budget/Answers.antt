-- The law holds of each lawful meaning, and the target's own is lawful.
use Rattle.law_within_budget.proofs.Within.{runs-within-budget}
use Rattle.law_within_budget.proofs.within_budget.Goals as goal

pub returns : goal.returns
returns g c = runs-within-budget g.T.Target.meaning (g.met.T.Target.lawful)
