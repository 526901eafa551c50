-- One sector has no changed byte, and then the others have none.
use Rattle.lab_model.proofs.Common.{◌∙◌, ◌+◌, ◌-◌, ap, ap₂, sym}
use Rattle.lab_image.specs.Changes.{unmarked, with_marks}
use Rattle.lab_image.proofs.Steps.{unmarked-more}
use Rattle.lab_image.proofs.changes.Changes.unmark_each.Goals as goal

pub loop-place-preserved : goal.loop-place-preserved
loop-place-preserved c =
    let place = c.loop-place.place in
    let number = c.args.number in
    let first = c.args.first in
    ap (λ changes. unmarked changes number (first + (place + 1)) (c.args.count - (place + 1)))
    (c.in_ok-set.ensures ∙ ap₂ (λ at marks. with_marks c.loop-place.self (number, at) marks)
    c.in_ok-sector.ensures c.new-none.ensures.items)
    ∙ sym (unmarked-more c.loop-place.self number first place c.args.count
    c.loop-place-test.true) ∙ c.loop-place.invariant
