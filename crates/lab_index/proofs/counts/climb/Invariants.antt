-- How far up the way is.
use Rattle.std.proofs.Common.{◌<◌}
use Rattle.lab_index.proofs.Puts.{Holds}
use Rattle.lab_index.proofs.counts.climb.Given as goal

-- the node has the leaf below it
abbrev pub invariant-loop-node : goal.invariant-loop-node
invariant-loop-node l = record {
  some : 0 < l.node;
  holds : Holds l.leaf l.step l.node;
}

-- the way up to the root
abbrev pub decreases-loop-node : goal.decreases-loop-node
decreases-loop-node l = l.node
