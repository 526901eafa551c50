-- Those of a run have no changed byte, and then those of the runs that are left.
use Rattle.lab_model.proofs.Common.{◌∙◌, ◌+◌, None, ap, drop, drop_more, get_or, length, subst, sym}
use Rattle.lab_watch.specs.declared.row.Run.{Run}
use Rattle.lab_watch.specs.Grids.{spelled_writers}
use Rattle.lab_image.specs.Changes.{unmarked}
use Rattle.lab_image.specs.Places.{ShowsKept}
use Rattle.lab_image.proofs.RunSteps.{unmark-step}
use Rattle.lab_image.proofs.changes.Changes.unmark.Goals as goal

pub loop-run-preserved : goal.loop-run-preserved
loop-run-preserved c =
    let items = c.runs-run-items.result.now in
    let index = c.loop-run.run-index in
    let none : Run = record { count = 0; writer = None } in
    let run = get_or items index none in
    let at = drop_more items index none c.loop-run-test.true in
    let rest = spelled_writers (drop (index + 1) items) in
    let number = c.args.number in
    let changes = c.loop-run.self in
    let next = c.unmark_run.new.self in
    let sector = c.loop-run.sector in
    let step = unmark-step run.count run.writer rest changes next number sector
    (subst (λ left. ShowsKept changes number sector (spelled_writers left)) at
    c.loop-run.invariant.shown) c.in_ok-unmark_run.ensures in
    let behind = c.in_ok-sector.ensures in
    record {
      all = ap (λ n. unmarked next number n (length rest)) behind ∙ step.0
          ∙ ap (λ left. unmarked changes number sector (length (spelled_writers left))) (sym at)
          ∙ c.loop-run.invariant.all;
      shown = subst (λ n. ShowsKept next number n rest) (sym behind) step.1;
    }
