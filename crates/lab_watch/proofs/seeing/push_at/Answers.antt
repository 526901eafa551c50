-- Nobody's sectors, and then the operation's.
use Rattle.std.proofs.Common.{◌∙◌, ◌-◌, ◌++◌, ap, ap₂, append_assoc, arith}
use Rattle.std.proofs.lemmas.Result.{on_ok_weaker}
use Rattle.lab_watch.specs.Grids.{side_by_side}
use Rattle.lab_watch.proofs.OneStretch.{at_row-split}
use Rattle.lab_watch.proofs.seeing.push_at.Goals as goal

pub returns : goal.returns
returns c = on_ok_weaker c.push-2.result (λ pushed. pushed
    ∙ ap₂ (λ row from. row ++ side_by_side (c.args.stop - c.min-begin.result) from)
    c.in_ok-push.ensures.pushed c.back_from.ensures
    ∙ append_assoc c.args.row.now _ _
    ∙ ap (λ row. c.args.row.now ++ row) (at_row-split (c.args.end, c.args.stretch) c.args.place
    c.args.stop c.min-begin.result c.requires.upward c.requires.within (omega arith)))
    c.push-2.ensures.pushed
