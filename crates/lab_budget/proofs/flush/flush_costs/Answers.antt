use Rattle.lab_model.proofs.Common.{[]}
use Rattle.lab_budget.specs.Counted.{with_steps}
use Rattle.lab_budget.proofs.FlushRows.{row-next}
use Rattle.lab_budget.proofs.flush.flush_costs.Goals as goal

-- the row above the row
pub loop-depth-preserved : goal.loop-depth-preserved
loop-depth-preserved g c =
    let m = g.T.Target.meaning in
    let s = with_steps c.args.plan.now [] in
    rw (c.in_ok-row.ensures, c.deref.ensures.value)
    (row-next m s c.loop-depth._depth c.loop-depth.row.items c.loop-depth.invariant)
