use Rattle.lab_model.proofs.Common.{rules, ◌≡◌, ◌+◌, [], ap, ◌∙◌, arith, cost, cost_within, length, subst}
use Rattle.lab_model.proofs.Common.{visits_within}
use Rattle.lab_model.specs.Cost.{visits}
use Rattle.lab_budget.specs.Counted.{IsCounted, with_steps}
use Rattle.lab_budget.specs.FlushRow.{entry_of}
use Rattle.lab_budget.proofs.Walks.{flush-counted}
use Rattle.lab_budget.proofs.cost.operation_cost.Goals as goal

-- a flush is told by the row
pub returns-in_ok-flushes-in-Flush : goal.returns-in_ok-flushes-in-Flush
returns-in_ok-flushes-in-Flush g c = λ steps.
    let row = c.in_ok-flushes-in-Flush.flushes.items in
    let is = c.in_ok-flushes-in-Flush.ensures in
    let op = c.flush_entry.result in
    let entry = c.flush_entry.ensures ∙ ap (λ r. entry_of r c.args.dev) c.deref.ensures.value in
    let visited = ap (λ o. o.visited) entry in
    let told = is.visited c.args.dev c.args.span in
    let counted = flush-counted g.T.Target.meaning (with_steps c.args.plan.now []) row c.args.dev
    c.args.kind c.args.span 0 op c.in-Flush.is is (ap (λ o. o.cost) entry)
    (omega (arith, visited, told)) in
    search rules

-- sectors are told by the walk
pub returns-in_ok-grouped-in-Read : goal.returns-in_ok-grouped-in-Read
returns-in_ok-grouped-in-Read g c = λ steps.
    let m = g.T.Target.meaning in
    let plan = c.args.plan.now in
    let same = c.in_ok-grouped-in-Read.ensures in
    let depth : c.count.result ≡ length plan.versions =
    c.count.ensures ∙ ap (λ p. length p.versions) same in
    let walked = subst (λ p. IsCounted
    (cost_within m (with_steps p []) c.count.result c.args.dev c.args.kind c.args.span)
    (0 + visits_within m (with_steps p []) c.count.result c.args.dev c.args.kind c.args.span)
    c.device_walk.result) same c.device_walk.ensures in
    let told : IsCounted (cost m (with_steps plan []) c.args.dev c.args.kind c.args.span)
    (0 + visits m (with_steps plan []) c.args.dev c.args.kind c.args.span) c.device_walk.result =
    subst (λ d. IsCounted
    (cost_within m (with_steps plan []) d c.args.dev c.args.kind c.args.span)
    (0 + visits_within m (with_steps plan []) d c.args.dev c.args.kind c.args.span)
    c.device_walk.result) depth walked in
    search (rules, told)
