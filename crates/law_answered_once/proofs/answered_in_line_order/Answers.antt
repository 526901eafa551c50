-- Each event keeps a log's answers, and then what waits, at its operations so far.
use Rattle.law_answered_once.proofs.OrderLaw.{each-answered_in_line_order}
use Rattle.law_answered_once.proofs.answered_in_line_order.Goals as goal

pub returns : goal.returns
returns g c = each-answered_in_line_order g.T.Target.meaning
