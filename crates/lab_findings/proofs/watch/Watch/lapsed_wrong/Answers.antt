-- Where nothing is claimed, nothing stood lost.
use Rattle.lab_model.proofs.Common.{◌∙◌, ap, sym}
use Rattle.lab_findings.proofs.Empties.{none-in}
use Rattle.lab_findings.specs.Watched.{Watched, device_reach}
use Rattle.lab_findings.proofs.watch.Watch.lapsed_wrong.Goals as goal

pub returns-then-is_empty : goal.returns-then-is_empty
returns-then-is_empty c =
    let watched : Watched = c.args.self.now in
    let claims = ap (λ known. known.claims) c.self.view_is in
    none-in watched.claims device_reach c.args.op.number 0 0
    (sym claims ∙ c.is_empty.ensures.nobody c.if-is_empty.true)
