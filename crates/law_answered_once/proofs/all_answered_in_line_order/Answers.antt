-- When all is done every line is taken and none waits for its answer.
use Rattle.law_answered_once.proofs.OrderLaw.{all-answered_in_line_order}
use Rattle.law_answered_once.proofs.all_answered_in_line_order.Goals as goal

pub returns : goal.returns
returns g c = all-answered_in_line_order g.T.Target.meaning
