-- No event adds a log or takes one away.
use Rattle.law_slots.proofs.LogsStand.{logs-stand}
use Rattle.law_answered_once.proofs.logs_stand.Goals as goal

pub returns : goal.returns
returns g c = logs-stand g.T.Target.meaning
