-- One sector's are handed down, and then the others' are.
use Rattle.lab_model.proofs.Common.{◌∙◌, ◌+◌, ◌-◌, ap, ap₂, sym}
use Rattle.lab_image.specs.Changes.{handed, marks_at, with_marks}
use Rattle.lab_image.proofs.Steps.{handed-more}
use Rattle.lab_image.proofs.changes.Changes.hand_each.Goals as goal

pub loop-behind-preserved : goal.loop-behind-preserved
loop-behind-preserved c =
    let behind = c.loop-behind.behind in
    let way = c.args.way in
    let changes = c.loop-behind.self in
    ap (λ next. handed next way.above (way.place + (behind + 1)) way.number
    (way.sector + (behind + 1)) (c.args.count - (behind + 1)))
    (c.in_ok-set.ensures ∙ ap₂ (λ at marks. with_marks changes (way.number, at) marks)
    c.in_ok-sector.ensures (c.in_ok-marks.ensures ∙ c.of.ensures
    ∙ ap (λ at. marks_at changes (way.above, at)) c.in_ok-place.ensures))
    ∙ sym (handed-more changes way.number way.above way.place way.sector behind c.args.count
    c.loop-behind-test.true) ∙ c.loop-behind.invariant
