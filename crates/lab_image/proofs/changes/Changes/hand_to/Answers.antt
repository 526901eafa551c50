-- Those of a run are handed down, and then those of the runs that are left.
use Rattle.lab_model.proofs.Common.{◌∙◌, ◌+◌, None, ap, drop, drop_more, get_or, length, subst, sym}
use Rattle.lab_watch.specs.declared.row.Run.{Run}
use Rattle.lab_watch.specs.Grids.{spelled_writers}
use Rattle.lab_image.specs.Changes.{handed}
use Rattle.lab_image.specs.Places.{ShowsKept}
use Rattle.lab_image.proofs.RunSteps.{hand-step}
use Rattle.lab_image.proofs.changes.Changes.hand_to.Goals as goal

pub loop-run-preserved : goal.loop-run-preserved
loop-run-preserved c =
    let items = c.runs-run-items.result.now in
    let index = c.loop-run.run-index in
    let none : Run = record { count = 0; writer = None } in
    let run = get_or items index none in
    let at = drop_more items index none c.loop-run-test.true in
    let rest = spelled_writers (drop (index + 1) items) in
    let way = c.args.way in
    let was = c.loop-run.at in
    let changes = c.loop-run.self in
    let next = c.hand_run.new.self in
    let step = hand-step run.count run.writer rest changes next way.number way.above was.place
    was.sector c.requires
    (subst (λ left. ShowsKept changes way.above was.place (spelled_writers left)) at
    c.loop-run.invariant.shown)
    (rw (c.loop-run.invariant.above, c.loop-run.invariant.number) at c.in_ok-hand_run.ensures) in
    let behind = c.in_ok-at.ensures in
    record {
      above = ap (λ it. it.above) behind ∙ c.loop-run.invariant.above;
      number = ap (λ it. it.number) behind ∙ c.loop-run.invariant.number;
      all = ap (λ it. handed next way.above it.place way.number it.sector (length rest)) behind
          ∙ step.0
          ∙ ap (λ left. handed changes way.above was.place way.number was.sector
          (length (spelled_writers left))) (sym at)
          ∙ c.loop-run.invariant.all;
      shown = subst (λ it. ShowsKept next way.above it.place rest) (sym behind) step.1;
    }
