-- A row that keeps what depends on its device lists all of it as before.
use Rattle.lab_model.proofs.Common.{length-map, get_or-map, rules}
use Rattle.lab_state.proofs.Going.{set-lists}
use Rattle.lab_state.proofs.dependents.Dependents.tidy.Goals as goal

-- so do the rows
pub returns : goal.returns
returns c = search (rules, length-map, get_or-map, set-lists)
