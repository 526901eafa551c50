-- Where nothing stands lost, and nothing is claimed, nothing is claimed then.
use Rattle.lab_model.proofs.Common.{◌∙◌, ap, sym}
use Rattle.lab_findings.proofs.Empties.{put-nothing}
use Rattle.lab_findings.specs.Watched.{Watched, device_reach}
use Rattle.lab_findings.proofs.watch.Watch.claim_lapses.Goals as goal

pub returns-then-is_empty-2 : goal.returns-then-is_empty-2
returns-then-is_empty-2 c =
    let watched : Watched = c.args.self.now in
    let claims = ap (λ known. known.claims) c.self.view_is in
    let lapses = ap (λ known. known.lapses) c.self.view_is in
    ap (λ grid. record watched { claims = grid })
    (sym (put-nothing watched.claims watched.lapses device_reach c.args.device 0 c.args.number 0
    (sym claims ∙ c.is_empty-then-is_empty.ensures.nobody c.if-is_empty-2.true)
    (sym lapses ∙ c.is_empty.ensures.nobody c.if-is_empty.true)))
