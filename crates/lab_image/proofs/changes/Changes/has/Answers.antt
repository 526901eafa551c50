-- The map finds it where it is kept.
use Rattle.lab_model.proofs.Common.{◌∙◌, ap, is_some, ℕ}
use Rattle.lab_image.specs.Changes.{has_place}
use Rattle.lab_image.proofs.Kept.{found-place}
use Rattle.lab_image.proofs.changes.Changes.has.Goals as goal

pub returns-in-Some : goal.returns-in-Some
returns-in-Some c =
    let place : ℕ × ℕ = (c.args.number, c.args.sector) in
    ap is_some c.in-Some.ensures.value ∙ found-place c.self.inside.entries.entries place
    ∙ ap (λ changes. has_place changes place) c.self.view_is

pub returns-in-None : goal.returns-in-None
returns-in-None c =
    let place : ℕ × ℕ = (c.args.number, c.args.sector) in
    ap is_some c.in-None.ensures.value ∙ found-place c.self.inside.entries.entries place
    ∙ ap (λ changes. has_place changes place) c.self.view_is
