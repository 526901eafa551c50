-- Sectors of the same byte are the same.
use Rattle.lab_model.proofs.Common.{rules}
use Rattle.lab_trace.proofs.written.are_alike.Goals as goal

-- the byte of both is the same
pub returns-in-Some-Some : goal.returns-in-Some-Some
returns-in-Some-Some c = search rules
