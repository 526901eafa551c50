use Rattle.law_slots.proofs.WalkImages.{calls-walk}
use Rattle.law_slots.proofs.calls_walk.Goals as goal

-- the law holds of each meaning
pub returns : goal.returns
returns g c = calls-walk g.T.Target.meaning
