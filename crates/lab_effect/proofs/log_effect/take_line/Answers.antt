-- The log takes the next line of its plan.
use Rattle.lab_model.proofs.Common.{rules, slice_get-get_or}
use Rattle.lab_effect.proofs.log_effect.take_line.Goals.{In-Some-get-2}
use Rattle.lab_effect.proofs.log_effect.take_line.Goals as goal

-- it is not wrong
pub take_this-requires-clause-moves : goal.take_this-requires-clause-moves
take_this-requires-clause-moves g c = search (rules, slice_get-get_or, In-Some-get-2)

-- so it is done
pub returns-in-Some-get-2-clause-next : goal.returns-in-Some-get-2-clause-next
returns-in-Some-get-2-clause-next g c = search (rules, slice_get-get_or, In-Some-get-2)
