-- The part of the bio has the sector alone.
use Rattle.lab_model.proofs.Common.{◌∙◌, ap, not, sym, slice_get, option_copied}
use Rattle.lab_findings.proofs.Rights.{right-past, right-there}
use Rattle.lab_findings.proofs.spoiling.has_right.Goals as goal

pub returns-in-Some-first : goal.returns-in-Some-first
returns-in-Some-first c = rw c.in-Some.is (ap not c.is_changed.ensures
    ∙ right-there c.args.byte c.args.place c.in-Some.bio.now c.in_ok-sectors.sectors.items
    c.in-Some-first.sector.now (c.in_ok-sectors.ensures ∙ c.in_ok-part.ensures)
    (ap (λ all. slice_get all 0) (sym c.deref.ensures.value) ∙ sym c.first.ensures.value
    ∙ ap option_copied c.in-Some-first.is))

pub returns : goal.returns
returns c = rw c.in-Some.is (right-past c.args.byte c.args.place c.in-Some.bio.now
    c.in_ok-sectors.sectors.items (c.in_ok-sectors.ensures ∙ c.in_ok-part.ensures)
    (ap (λ all. slice_get all 0) (sym c.deref.ensures.value) ∙ sym c.in-None.ensures.value))
