-- Behind the greatest height that one is too low, too.
use Rattle.std.proofs.Common.{arith}
use Rattle.lab_index.proofs.growth.height_for.Goals as goal

pub returns-clause-far : goal.returns-clause-far
returns-clause-far c = c.loop-height.invariant 24 (omega arith)
