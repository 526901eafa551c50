use Rattle.lab_model.proofs.Common.{◌≡◌, map, take}
use Rattle.lab_budget.proofs.grouped_plan.all_grouped.Given as goal

-- the devices so far
abbrev pub invariant-loop-tables : goal.invariant-loop-tables
invariant-loop-tables g l =
    l.devices.items ≡ map (λ row. row.items) (take l.tables-index l.versions)
