-- The events that aren't the clock's are within the budget.
use Rattle.lab_model.proofs.Common.{rules, ◌∙◌, arith}
use Rattle.lab_core.proofs.Known.{steps-met}
use Rattle.lab_core.proofs.lab.Lab.steps.Goals as goal

pub returns-clause-count : goal.returns-clause-count
returns-clause-count g c = rw (← c.history.ensures.events) c.count_steps.ensures

-- with those that can still come
pub returns-clause-whole : goal.returns-clause-whole
returns-clause-whole g c = search rules

pub returns-clause-within : goal.returns-clause-within
returns-clause-within g c = omega (arith, returns-clause-whole g c)

-- the budget itself once all is done, where no device has more than one version and all lines take
-- the dearest course
pub returns-clause-met : goal.returns-clause-met
returns-clause-met g c = λ single passes done. returns-clause-count g c
    ∙ steps-met g.T.Target.meaning g.met.T.Target.lawful c.args.self.now
    c.history.ensures.running single passes done
