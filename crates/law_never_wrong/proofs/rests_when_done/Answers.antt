-- No event adds a log, so each log that stands is one of the scenario, and has ended.
use Rattle.lab_model.proofs.Common.{rules}
use Rattle.law_slots.proofs.LogsStand.{logs-stand}
use Rattle.law_never_wrong.proofs.Done.{done-rests}
use Rattle.law_never_wrong.proofs.rests_when_done.Goals as goal

pub returns : goal.returns
returns g c = search (rules, done-rests, logs-stand)
