-- What is left of the run goes on behind the sectors that are gone.
use Rattle.lab_model.proofs.Common.{◌-◌, refl}
use Rattle.lab_watch.specs.declared.row.Run.{Run}
use Rattle.lab_findings.proofs.Stales.{run-past}
use Rattle.lab_findings.proofs.stale.past.Goals as goal

pub returns-then-count-run-clause-same : goal.returns-then-count-run-clause-same
returns-then-count-run-clause-same c = λ within.
    let left : Run =
    record { count = c.args.run.count - c.args.count; writer = c.in_ok-behind.field-0 } in
    run-past c.args.run left c.args.rest.now c.args.count within refl c.in_ok-behind.ensures
