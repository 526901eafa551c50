use Rattle.lab_model.proofs.Common.{[]}
use Rattle.lab_budget.specs.Counted.{with_steps}
use Rattle.lab_budget.specs.FlushRow.{IsFlushRow}
use Rattle.lab_budget.proofs.flush.flush_costs.Given as goal

-- the row is that of the depth
abbrev pub invariant-loop-depth : goal.invariant-loop-depth
invariant-loop-depth g l =
    IsFlushRow g.T.Target.meaning (with_steps l.plan []) l._depth l.row.items
