-- Who stands at the sectors shows where none is kept, and there are as many.
use Rattle.lab_model.proofs.Common.{◌∙◌, IfOk-weaker, ap, length, subst, sym}
use Rattle.lab_image.specs.Places.{ShowsKept}
use Rattle.lab_image.proofs.Kept.{kept}
use Rattle.lab_image.proofs.Noted.{length-writers_in, noted-shows}
use Rattle.lab_image.proofs.changes.Changes.kept.Goals as goal

pub returns-clause-count : goal.returns-clause-count
returns-clause-count c = IfOk-weaker c.part.result _ _
    (λ row is. ap length is
    ∙ length-writers_in c.self.inside.places c.args.number c.args.first c.args.count)
    c.part.ensures.part

pub returns-clause-shown : goal.returns-clause-shown
returns-clause-shown c =
    let changes = kept c.self.inside.entries.entries in
    IfOk-weaker c.part.result _ _
    (λ row is. subst (λ one. ShowsKept one c.args.number c.args.first row) c.self.view_is
    (subst (λ one. ShowsKept changes c.args.number c.args.first one) (sym is)
    (noted-shows changes c.self.inside.places c.args.number c.args.first c.args.count
    c.self.invariant)))
    c.part.ensures.part
