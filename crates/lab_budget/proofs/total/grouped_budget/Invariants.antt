use Rattle.lab_model.proofs.Common.{◌+◌, [], drop, map, sum, line_cost}
use Rattle.lab_budget.specs.Counted.{lines_visits, with_steps}
use Rattle.lab_budget.proofs.SoFar.{SumSoFar}
use Rattle.lab_budget.proofs.total.grouped_budget.Given as goal

-- with the logs that are left both sums are the plan's
abbrev pub invariant-loop-log : goal.invariant-loop-log
invariant-loop-log g l =
    let m = g.T.Target.meaning in
    let c = with_steps l.plan [] in
    SumSoFar (sum (map (λ log. sum (map (line_cost m c) log.lines)) l.plan.logs) + l.plan.micros)
    (sum (map (λ log. lines_visits m c log.lines) l.plan.logs))
    (sum (map (λ log. sum (map (line_cost m c) log.lines)) (drop l.log-index l.plan.logs)))
    (sum (map (λ log. lines_visits m c log.lines) (drop l.log-index l.plan.logs))) l.sum
