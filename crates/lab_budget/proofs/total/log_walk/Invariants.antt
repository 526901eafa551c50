use Rattle.lab_model.proofs.Common.{◌+◌, [], drop, map, sum, line_cost}
use Rattle.lab_budget.specs.Counted.{line_visits, lines_visits, with_steps}
use Rattle.lab_budget.proofs.SoFar.{SumSoFar}
use Rattle.lab_budget.proofs.total.log_walk.Given as goal

-- with the lines that are left both sums are the log's
abbrev pub invariant-loop-line : goal.invariant-loop-line
invariant-loop-line g l =
    let m = g.T.Target.meaning in
    let c = with_steps l.plan [] in
    SumSoFar (sum (map (line_cost m c) l.log.lines)) (l.before + lines_visits m c l.log.lines)
    (sum (map (line_cost m c) (drop l.line-index l.log.lines)))
    (sum (map (line_visits m c) (drop l.line-index l.log.lines))) l.sum
