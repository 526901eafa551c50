-- The clock is within an hour for each event of the budget.
use Rattle.lab_model.proofs.Common.{rules, arith}
use Rattle.lab_core.proofs.Known.{stays-bounded}
use Rattle.lab_core.proofs.lab.Lab.now.Goals as goal

-- with an hour for each event that is left
pub returns-clause-whole : goal.returns-clause-whole
returns-clause-whole g c = search (rules, stays-bounded)

pub returns-clause-within : goal.returns-clause-within
returns-clause-within g c = omega (arith, returns-clause-whole g c)
