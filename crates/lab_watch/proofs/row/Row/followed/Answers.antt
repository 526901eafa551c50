-- One run after another is put behind.
use Rattle.lab_model.proofs.Common.{◌∙◌, ◌+◌, ◌++◌, ap, sym, append_assoc, drop, drop_more, get_or, None}
use Rattle.lab_watch.specs.declared.row.Run.{Run}
use Rattle.lab_watch.specs.Grids.{side_by_side, spelled_writers}
use Rattle.lab_watch.proofs.row.Row.followed.Goals as goal

pub loop-run-preserved : goal.loop-run-preserved
loop-run-preserved c =
    let items = c.runs-run-items.result.now in
    let index = c.loop-run.run-index in
    let none : Run = record { count = 0; writer = None } in
    let run = get_or items index none in
    let rest = spelled_writers (drop (index + 1) items) in
    let at = drop_more items index none c.loop-run-test.true in
    ap (λ row. row ++ rest) c.in_ok-push.ensures.pushed
    ∙ append_assoc c.loop-run.row (side_by_side run.count run.writer) rest
    ∙ ap (λ left. c.loop-run.row ++ spelled_writers left) (sym at)
    ∙ c.loop-run.invariant
