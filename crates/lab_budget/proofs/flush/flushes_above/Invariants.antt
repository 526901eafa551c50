use Rattle.lab_model.proofs.Common.{◌≡◌, take}
use Rattle.lab_budget.specs.FlushRow.{next_row}
use Rattle.lab_budget.proofs.flush.flushes_above.Given as goal

-- the devices gone over are in the row
abbrev pub invariant-loop-versions : goal.invariant-loop-versions
invariant-loop-versions g l =
    l.next.items ≡ next_row g.T.Target.meaning l.row (take l.versions-index l.plan.versions)
