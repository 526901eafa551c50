-- With these claims, and with who wrote what it is answered, it is known what is stale.
use Rattle.lab_model.proofs.Common.{◌≡◌, ◌∙◌, ap, List, Option, IfOk-weaker}
use Rattle.lab_next.specs.declared.writer.Writer.{Writer}
use Rattle.lab_watch.specs.Grids.{writers_in}
use Rattle.lab_findings.specs.Judged.{stale_pairs, stale_wrong}
use Rattle.lab_findings.specs.Watched.{Watched}
use Rattle.lab_findings.specs.Wrongs.{wrong_from}
use Rattle.lab_findings.specs.declared.answered.Answered.{Answered}
use Rattle.lab_findings.proofs.Stales.{pairs-part}
use Rattle.lab_findings.proofs.watch.Watch.stale_wrong.Goals as goal

-- where these are the claims, the stale sectors are those of a read
stale-by : (watched : Watched) (op : Answered) (claims : List (Option Writer))
    → claims ≡ writers_in watched.claims op.number 0 op.span.len
    → wrong_from op.span.first (stale_pairs watched.deeds claims
    (writers_in watched.writers.reads op.number 0 op.span.len)) ≡ stale_wrong watched op
stale-by watched op claims are =
    let got = writers_in watched.writers.reads op.number 0 op.span.len in
    ap (λ all. wrong_from op.span.first (stale_pairs watched.deeds all got)) are
    ∙ ap (wrong_from op.span.first)
    (pairs-part watched.deeds watched.claims watched.writers.reads op.number 0 op.span.len)

pub returns-in-Some : goal.returns-in-Some
returns-in-Some c =
    let watched = c.args.self.now in
    let op = c.args.op in
    let claims = c.in-Some.ensures.whole
    ∙ ap (λ all. writers_in all.claims op.number 0 op.span.len) c.self.view_is in
    IfOk-weaker c.stale_by.result _ _ (λ wrong is. is ∙ stale-by watched op _ claims)
    c.stale_by.ensures

pub returns-in_ok-part-in-None : goal.returns-in_ok-part-in-None
returns-in_ok-part-in-None c =
    let watched = c.args.self.now in
    let op = c.args.op in
    let claims = c.in_ok-part-in-None.ensures.part
    ∙ ap (λ all. writers_in all.claims op.number 0 op.span.len) c.self.view_is in
    IfOk-weaker c.stale_by-in-None-2.result _ _ (λ wrong is. is ∙ stale-by watched op _ claims)
    c.stale_by-in-None-2.ensures
