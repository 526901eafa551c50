-- One run of claims after another is told.
use Rattle.lab_model.proofs.Common.{rules, ◌≡◌, ◌+◌, ◌∷◌, get_or, drop, drop_more, None}
use Rattle.lab_watch.specs.declared.row.Run.{Run}
use Rattle.lab_findings.proofs.Newest.{claims-newer}
use Rattle.lab_findings.proofs.newer.all_newer.Goals as goal

pub loop-run-preserved : goal.loop-run-preserved
loop-run-preserved c =
    let items = c.runs-run-items.result.now in
    let index = c.loop-run.run-index in
    let none : Run = record { count = 0; writer = None } in
    let run = get_or items index none in
    let at : drop index items ≡ run ∷ drop (index + 1) items =
    drop_more items index none c.loop-run-test.true in
    let further : c.in_ok-place.place ≡ c.loop-run.place + run.count = search rules in
    rw further (claims-newer c.args.deeds.now c.args.number c.args.newest.now c.args.device
    c.loop-run.place run (drop (index + 1) items) c.in_ok-others.others c.loop-run.row
    c.push_newer.new.row _ c.in_ok-others.ensures.part c.in_ok-push_newer.ensures
    (rw at at c.loop-run.invariant))
