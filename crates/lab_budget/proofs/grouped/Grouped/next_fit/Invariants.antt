use Rattle.lab_model.proofs.Common.{◌≡◌, ◌≤◌, ◌-◌, length}
use Rattle.lab_budget.specs.Grouped.{fitting_from}
use Rattle.lab_budget.proofs.grouped.Grouped.next_fit.Given as goal

-- those that were passed don't have the sectors
abbrev pub invariant-loop-table : goal.invariant-loop-table
invariant-loop-table g l = record {
  from : l.from ≤ l.place;
  passed : fitting_from l.kind l.span l.self l.from ≡ fitting_from l.kind l.span l.self l.place;
}

-- each turn goes on
abbrev pub decreases-loop-table : goal.decreases-loop-table
decreases-loop-table g l = length l.self - l.place
