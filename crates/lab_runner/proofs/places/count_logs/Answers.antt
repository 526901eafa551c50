-- What is known of each laboratory bounds its logs and its events.
use Rattle.lab_model.proofs.Common.{◌≡◌, length, arith, rules}
use Rattle.lab_any.specs.Any.{any_meaning}
use Rattle.lab_any.specs.AnyLaws.{any-lawful}
use Rattle.lab_runner.proofs.Keeps.{events-few, logs-few}
use Rattle.lab_runner.proofs.places.count_logs.Goals as goal

-- the logs
pub returns-clause-fits : goal.returns-clause-fits
returns-clause-fits c =
    let lab = c.args.lab.now in
    let few = logs-few any_meaning any-lawful lab c.history-events.ensures.running in
    let same : c.len.result ≡ length lab.scenario.logs = search rules in
    omega (arith, few, same)

-- the events
pub returns-clause-events : goal.returns-clause-events
returns-clause-events c =
    events-few any_meaning any-lawful c.args.lab.now c.history-events.ensures.running
