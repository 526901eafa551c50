-- The law holds of each lawful meaning, and the target's own is lawful.
use Rattle.law_slots.proofs.WalkRuns.{run-keeps-walk}
use Rattle.law_slots.proofs.walk_is_kept.Goals as goal

pub returns : goal.returns
returns g c = run-keeps-walk g.T.Target.meaning (g.met.T.Target.lawful)
