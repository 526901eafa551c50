-- Where the k-th is looked for.
use Rattle.std.proofs.Common.{◌^◌}
use Rattle.lab_index.proofs.Descent.{StandsBelow}
use Rattle.lab_index.proofs.counts.leaf_of.Given as goal

-- the k-th stands below this node, and is the rest-th there
abbrev pub invariant-loop-step : goal.invariant-loop-step
invariant-loop-step l = StandsBelow (2 ^ l.height) l.counts l.k l.step l.node l.rest

-- the steps to go down
abbrev pub decreases-loop-step : goal.decreases-loop-step
decreases-loop-step l = l.step
