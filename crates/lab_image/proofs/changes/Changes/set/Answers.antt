-- Where none are there or were kept, nothing changes.
use Rattle.lab_model.proofs.Common.{◌∙◌, ap, length, sym, ℕ}
use Rattle.lab_image.specs.Changes.{has_place, some_or}
use Rattle.lab_image.proofs.Kept.{keep-marks}
use Rattle.lab_image.proofs.changes.Changes.set.Goals as goal

pub returns : goal.returns
returns c =
    let place : ℕ × ℕ = (c.args.number, c.args.sector) in
    keep-marks c.args.self.now place c.args.marks.items
    (ap (λ marks. some_or (length marks) (has_place c.args.self.now place))
    (sym c.as_slice.ensures.value) ∙ sym c.is_kept.ensures ∙ c.if-is_kept.false)
