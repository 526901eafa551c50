use Rattle.lab_model.proofs.Common.{rules}
use Rattle.lab_verify.proofs.verifier.accept.Goals as goal

-- only the budget is still to be looked at
pub hand_over-requires-clause-awaits : goal.hand_over-requires-clause-awaits
hand_over-requires-clause-awaits g c = c.requires

-- which is the one that is told
pub hand_over-requires-clause-budget : goal.hand_over-requires-clause-budget
hand_over-requires-clause-budget g c = search rules

pub returns-in-Ok : goal.returns-in-Ok
returns-in-Ok g c = c.hand_over.ensures
