-- As many sectors are claimed as the bio has: all of them, where none is void.
use Rattle.lab_model.proofs.Common.{rules, ◌∙◌, ap, sym, IfOk-weaker}
use Rattle.lab_next.specs.declared.writer.Writer.{Writer}
use Rattle.lab_watch.proofs.Rows.{length-part}
use Rattle.lab_watch.specs.Grids.{writers_in}
use Rattle.lab_findings.proofs.Claims.{all-claimed, length-claims}
use Rattle.lab_findings.specs.Settled.{all_newer, risen}
use Rattle.lab_findings.proofs.watch.Watch.risen.Goals as goal

pub returns : goal.returns
returns c = search (rules, length-part, length-claims)

pub returns-then-is_empty : goal.returns-then-is_empty
returns-then-is_empty c =
    let own = c.self.inside in
    let number = c.args.number in
    let device = c.args.device in
    let span = c.args.span in
    let first : Writer = record { origin = c.args.origin; sector = 0 } in
    IfOk-weaker c.newer_row.result _ _ (λ row is. is
    ∙ ap (λ claims. all_newer own.deeds number claims
    (writers_in own.newest device span.first span.len))
    (sym (all-claimed own.voids span.len first number 0 (c.is_empty.ensures.nobody c.if-is_empty.true)))
    ∙ ap (λ watched. risen watched number c.args.origin device span) c.self.view_is) c.newer_row.ensures
