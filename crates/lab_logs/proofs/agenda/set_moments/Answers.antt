use Rattle.lab_model.proofs.Common.{get_or, arith, get_or_default, map_over_more}
use Rattle.lab_logs.specs.Agenda.{due_at}
use Rattle.lab_logs.proofs.agenda.set_moments.Goals as goal

-- one more has the moment
pub loop-due-preserved : goal.loop-due-preserved
loop-due-preserved c =
    let items = c.loop-due.due-items in
    let at = c.loop-due.due-index in
    map_over_more (due_at c.args.moment) c.deref_mut-due-items.result.now items at
    (get_or items at _) (omega arith) c.loop-due.invariant
    (get_or_default items at _ _ (omega arith))
