-- One run of what stood there after another is told.
use Rattle.lab_model.proofs.Common.{◌≡◌, ◌+◌, ◌∷◌, get_or, drop, drop_more, None}
use Rattle.lab_watch.specs.declared.row.Run.{Run}
use Rattle.lab_findings.proofs.Newest.{run-newer}
use Rattle.lab_findings.proofs.newer.push_newer.Goals as goal

pub loop-run-preserved : goal.loop-run-preserved
loop-run-preserved c =
    let items = c.runs-run-items.result.now in
    let index = c.loop-run.run-index in
    let none : Run = record { count = 0; writer = None } in
    let run = get_or items index none in
    let at : drop index items ≡ run ∷ drop (index + 1) items =
    drop_more items index none c.loop-run-test.true in
    rw c.in_ok-claim.ensures (run-newer c.args.deeds.now c.args.number c.loop-run.claim run
    (drop (index + 1) items) c.loop-run.row c.push.new.self _
    (rw c.newer_if.ensures at c.in_ok-push.ensures.pushed)
    (rw at at c.loop-run.invariant))
