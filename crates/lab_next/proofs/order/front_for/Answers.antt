-- The script and each log have one event at most of these.
use Rattle.lab_model.proofs.Common.{rules}
use Rattle.lab_next.proofs.OwnFront.{own-line, own-none, own-script}
use Rattle.lab_next.proofs.order.front_for.Goals as goal

-- a log's
pub returns-in-Log : goal.returns-in-Log
returns-in-Log g c = search (rules, own-line)

-- the script's
pub returns-in-Control : goal.returns-in-Control
returns-in-Control g c = search (rules, own-script)

-- the timers have none
pub returns-in-Timers : goal.returns-in-Timers
returns-in-Timers g c = rw c.in-Timers.is (own-none c.args.scenario.now c.args.state.now)
