-- Where nothing was ever dropped, nothing is lost and nothing stood lost.
use Rattle.lab_model.proofs.Common.{◌∙◌, ap, sym}
use Rattle.lab_findings.proofs.Empties.{put-nothing}
use Rattle.lab_findings.specs.Watched.{Watched}
use Rattle.lab_findings.proofs.watch.Watch.lapse.Goals as goal

pub returns-then-is_empty-2 : goal.returns-then-is_empty-2
returns-then-is_empty-2 c =
    let watched : Watched = c.args.self.now in
    let drops = ap (λ known. known.writers.drops) c.self.view_is in
    let lapses = ap (λ known. known.lapses) c.self.view_is in
    ap (λ grid. record watched { lapses = grid })
    (sym (put-nothing watched.lapses watched.writers.drops c.args.span.len c.args.number 0
    c.args.device c.args.span.first
    (sym lapses ∙ c.is_empty-then-is_empty.ensures.nobody c.if-is_empty-2.true)
    (sym drops ∙ sym c.drops.ensures.drops ∙ c.is_empty.ensures.nobody c.if-is_empty.true)))
