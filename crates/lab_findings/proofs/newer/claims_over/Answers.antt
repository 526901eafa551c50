-- One run after another is told.
use Rattle.lab_model.proofs.Common.{rules, ◌≡◌, ◌+◌, ◌∷◌, get_or, drop, drop_more, None}
use Rattle.lab_watch.specs.declared.row.Run.{Run}
use Rattle.lab_findings.proofs.Claims.{claims-step}
use Rattle.lab_findings.proofs.newer.claims_over.Goals as goal

pub loop-run-preserved : goal.loop-run-preserved
loop-run-preserved c =
    let items = c.runs-run-items.result.now in
    let index = c.loop-run.run-index in
    let none : Run = record { count = 0; writer = None } in
    let run = get_or items index none in
    let at : drop index items ≡ run ∷ drop (index + 1) items =
    drop_more items index none c.loop-run-test.true in
    record {
      claims = rw c.from-sector.ensures (claims-step
          (record { origin = c.args.origin; sector = c.loop-run.sector }) run
          (drop (index + 1) items) c.loop-run.row c.push.new.self _
          (rw c.claim_over-claim.ensures at c.in_ok-push.ensures.pushed)
          (rw at at c.loop-run.invariant.claims));
      within = search rules;
    }
