-- The row of the device has the bio from now on, and what it had of those that depend on the
-- device; what its bio enters is known, and of the others as much as before.
use Rattle.lab_model.proofs.Common.{length-map, get_or-map, rules}
use Rattle.lab_state.proofs.Going.{set-lists}
use Rattle.lab_state.proofs.dependents.Dependents.try_add.Goals as goal

-- it is put into the row
pub returns-clause-here : goal.returns-clause-here
returns-clause-here c = search (rules, set-lists)

-- the others stay in it
pub returns-clause-keeps : goal.returns-clause-keeps
returns-clause-keeps c = search (rules, length-map, get_or-map, set-lists)
