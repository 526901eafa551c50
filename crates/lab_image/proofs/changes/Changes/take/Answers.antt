-- Those of a run are taken over, and then those of the runs that are left.
use Rattle.lab_model.proofs.Common.{◌∙◌, ◌+◌, None, ap, drop, drop_more, get_or, length, subst, sym}
use Rattle.lab_watch.specs.declared.row.Run.{Run}
use Rattle.lab_watch.specs.Grids.{spelled_writers}
use Rattle.lab_image.specs.Changes.{taken_over}
use Rattle.lab_image.specs.Places.{ShowsKept}
use Rattle.lab_image.proofs.RunSteps.{take-step}
use Rattle.lab_image.proofs.changes.Changes.take.Goals as goal

pub loop-run-preserved : goal.loop-run-preserved
loop-run-preserved c =
    let items = c.runs-run-items.result.now in
    let index = c.loop-run.run-index in
    let none : Run = record { count = 0; writer = None } in
    let run = get_or items index none in
    let at = drop_more items index none c.loop-run-test.true in
    let rest = spelled_writers (drop (index + 1) items) in
    let above = c.args.above in
    let number = c.args.number in
    let from = c.args.from.now in
    let was = c.loop-run.at in
    let changes = c.loop-run.self in
    let next = c.take_run.new.self in
    let step = take-step run.count run.writer rest from changes next number above was.place
    was.sector
    (subst (λ left. ShowsKept from above was.place (spelled_writers left)) at
    c.loop-run.invariant.shown)
    (rw (c.loop-run.invariant.above, c.loop-run.invariant.number) at c.in_ok-take_run.ensures) in
    let behind = c.in_ok-at.ensures in
    record {
      above = ap (λ it. it.above) behind ∙ c.loop-run.invariant.above;
      number = ap (λ it. it.number) behind ∙ c.loop-run.invariant.number;
      all = ap (λ it. taken_over from above it.place next number it.sector (length rest)) behind
          ∙ step.0
          ∙ ap (λ left. taken_over from above was.place changes number was.sector
          (length (spelled_writers left))) (sym at)
          ∙ c.loop-run.invariant.all;
      shown = subst (λ it. ShowsKept from above it.place rest) (sym behind) step.1;
    }
