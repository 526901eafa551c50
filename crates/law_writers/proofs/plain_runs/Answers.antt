-- The law holds of each meaning.
use Rattle.law_writers.proofs.Plain.{runs-are-plain}
use Rattle.law_writers.proofs.plain_runs.Goals as goal

-- so of the target's own
pub returns : goal.returns
returns g start = runs-are-plain g.T.Target.meaning
