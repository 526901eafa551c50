use Rattle.lab_model.proofs.Common.{◌≡◌, ◌<◌, [], ◌∷◌, ◌++◌, get_or, length, map, sym, ap, ◌∙◌}
use Rattle.lab_model.proofs.Common.{arith, get_or-map, length-map}
use Rattle.lab_budget.specs.FlushRow.{device_flush}
use Rattle.lab_budget.proofs.FlushRows.{row-more}
use Rattle.lab_budget.proofs.flush.flushes_above.Goals as goal

-- one device more
pub loop-versions-preserved : goal.loop-versions-preserved
loop-versions-preserved g c =
    let m = g.T.Target.meaning in
    let row = c.args.row.now in
    let i = c.loop-versions.versions-index in
    let items = c.plan.inside.versions.now in
    let views = c.args.plan.now.versions in
    let one = c.versions-item.result in
    let viewed : map (λ vs. vs.items) items ≡ views = ap (λ p. p.versions) c.plan.view_is in
    let within : i < length items = omega (arith, c.loop-versions-test.true) in
    let there : one.items ≡ get_or views i one.items =
    ap (λ vs. vs.items) c.versions-item.is
    ∙ sym (get_or-map (λ vs. vs.items) items i one one.items within)
    ∙ ap (λ vs. get_or vs i one.items) viewed in
    row-more m row views i one.items c.loop-versions.next.items c.push.new.self.items
    (omega (arith, within, ap length viewed, length-map items (λ vs. vs.items)))
    there c.loop-versions.invariant (c.in_ok-push.ensures.items
    ∙ ap (λ o. c.loop-versions.next.items ++ o ∷ [])
    (c.device_flushes.ensures ∙ ap (device_flush m row) c.deref.ensures.value))
