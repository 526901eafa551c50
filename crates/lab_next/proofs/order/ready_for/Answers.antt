-- No event of a bio is the script's.
use Rattle.lab_state.proofs.OwnBios.{none_scripts}
use Rattle.lab_next.proofs.order.ready_for.Goals as goal

-- so there is none
pub returns-in-Control : goal.returns-in-Control
returns-in-Control g c = rw c.in-Control.is (none_scripts c.args.state.now)
