-- As many bios of a number are gone as are answered, whatever the type of target.
use Rattle.law_answered_once.proofs.OnceLemmas.{each-answered_once}
use Rattle.law_answered_once.proofs.answered_once.Goals as goal

pub returns : goal.returns
returns g c = each-answered_once g.T.Target.meaning
