-- The agenda has just the logs, in another order.
use Rattle.lab_model.proofs.Common.{◌∙◌}
use Rattle.lab_logs.proofs.Ahead.{ahead-row}
use Rattle.lab_logs.proofs.logs.Logs.is_one_ahead.Goals as goal

-- so one of it is due later where one's moment lies ahead
pub returns : goal.returns
returns c = rw (← c.self.view_is) (c.is_one_ahead.ensures
    ∙ ahead-row c.args.now c.self.inside.items.items c.self.inside.agenda c.self.invariant)
