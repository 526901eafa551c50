use Rattle.lab_model.proofs.Common.{ap, get_or, arith, map_over_more, starting}
use Rattle.lab_logs.proofs.logs.start_logs.Goals as goal

-- one log more has started
pub loop-log-preserved : goal.loop-log-preserved
loop-log-preserved c =
    let items = c.loop-log.log-items in
    let at = c.loop-log.log-index in
    rw c.start_log.ensures
    (map_over_more (starting c.args.now) c.deref_mut-log-items.result.now items at
    (get_or items at c.log-item.result) (omega arith) c.loop-log.invariant
    (ap (λ log. get_or items at log) c.log-item.is))
