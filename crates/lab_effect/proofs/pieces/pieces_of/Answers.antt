use Rattle.lab_model.proofs.Common.{◌≡◌, sym, subst, All, IfOk-weaker, pieces}
use Rattle.lab_effect.specs.Mapping.{FitsLine}
use Rattle.lab_effect.proofs.PieceLines.{pieces-fit}
use Rattle.lab_effect.proofs.pieces.pieces_of.Goals as goal

-- the table has no gap, so each piece fits its line
pub returns-clause-of_lines : goal.returns-clause-of_lines
returns-clause-of_lines g c =
    let m = g.T.Target.meaning in
    let table = c.args.table.now in
    let fit = pieces-fit m table c.lines-lines.ensures.table.are_lines.no_gap c.args.span
    c.args.kind c.requires in
    IfOk-weaker c.cut_bio.result
    (λ cut. cut.items ≡ pieces m c.args.table.now c.args.kind c.args.span)
    (λ cut. All (FitsLine c.args.kind c.args.table.now) cut.items)
    (λ cut is. subst (All (FitsLine c.args.kind c.args.table.now)) (sym is) fit) c.cut_bio.ensures
