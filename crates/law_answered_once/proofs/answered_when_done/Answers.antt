-- When all is done no bio lives, and each dead one has its answer.
use Rattle.law_answered_once.proofs.OnceLemmas.{each-answered_when_done}
use Rattle.law_answered_once.proofs.answered_when_done.Goals as goal

pub returns : goal.returns
returns g c = each-answered_when_done g.T.Target.meaning
