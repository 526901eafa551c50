-- A piece is judged by its line, as it counts sectors.
use Rattle.lab_model.proofs.Common.{◌≡◌, suc, ap, refl, sym, ◌∙◌, get_or_from_slice_get, placed}
use Rattle.lab_model.proofs.Common.{Some-holds}
use Rattle.lab_bios.proofs.Numbers.{changed-agree}
use Rattle.lab_effect.proofs.judgement.judge_piece.Given.{Over}
use Rattle.lab_effect.proofs.judgement.judge_piece.Goals.{After-placed-span}
use Rattle.lab_effect.proofs.judgement.judge_piece.Goals as goal

-- the piece's sectors as the line counts them
counted : (g : Over) (c : After-placed-span g)
    → c.placed-span.result ≡ placed c.args.kind c.requires.line c.args.piece.span
counted g c = c.placed-span.ensures ∙ ap (λ l. placed c.args.kind l c.args.piece.span)
    (c.index-lines-piece.is ∙ rw c.lines.ensures.lines (get_or_from_slice_get c.args.table.now
    c.args.piece.line c.requires.line c.index-lines-piece.result c.requires.there))

-- the line that judged the piece counts it as the definition does
pub returns-clause-table : goal.returns-clause-table
returns-clause-table g c =
    let m = g.T.Target.meaning in
    c.judge-verdict.ensures.state ∙ changed-agree c.args.table.now (suc c.args.piece.line) _ _
    (λ line there. rw (
      counted g (goal.at.returns-clause-table g c).After-placed-span,
      Some-holds (sym c.requires.there ∙ there),
    ) refl)
