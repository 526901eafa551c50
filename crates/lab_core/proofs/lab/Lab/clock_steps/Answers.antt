-- The events that are the clock's are within the budget.
use Rattle.lab_model.proofs.Common.{rules}
use Rattle.lab_core.proofs.lab.Lab.clock_steps.Goals as goal

pub returns-clause-count : goal.returns-clause-count
returns-clause-count g c = rw (← c.history.ensures.events) c.count_ticks.ensures

pub returns-clause-within : goal.returns-clause-within
returns-clause-within g c = search rules
