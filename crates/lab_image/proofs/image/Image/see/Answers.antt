-- One bio is made, and then the others are.
use Rattle.lab_model.proofs.Common.{◌∙◌, ◌+◌, ◌-◌, ap, length, subst, sym, ℕ, ◌<◌}
use Rattle.lab_image.specs.Images.{all_begun}
use Rattle.lab_image.proofs.Begun.{begun-more}
use Rattle.lab_image.proofs.image.Image.see.Goals as goal

pub loop-place-preserved : goal.loop-place-preserved
loop-place-preserved g c =
    let place = c.loop-place.place in
    let s = c.args.state.now in
    ap (all_begun s (place + 1) (length s.bios - (place + 1))) c.in_ok-begin.ensures
    ∙ sym (begun-more s c.loop-place.self place (length s.bios)
    (subst (λ (n : ℕ). place < n) c.count_made-place-end.ensures c.loop-place-test.true))
    ∙ c.loop-place.invariant
