-- Those that aren't the clock's are the others.
use Rattle.lab_model.proofs.Common.{arith}
use Rattle.law_needs_met.proofs.BioCount.{all-steps}
use Rattle.lab_core.proofs.counts.count_steps.Goals as goal

pub overflow_sub-result : goal.overflow_sub-result
overflow_sub-result c = omega (arith, c.requires, all-steps c.args.events.now)

pub returns : goal.returns
returns c = omega (arith, c.requires, all-steps c.args.events.now)
