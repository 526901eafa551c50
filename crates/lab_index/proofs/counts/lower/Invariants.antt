-- Which nodes may be wrong on the way up.
use Rattle.std.proofs.Common.{◌+◌, ◌-◌}
use Rattle.std.specs.Prelude.{slice_index}
use Rattle.lab_index.proofs.Rising.{IsRising}
use Rattle.lab_index.proofs.counts.lower.Given as goal

-- all nodes are right but this one and those above it
abbrev pub invariant-loop-node : goal.invariant-loop-node
invariant-loop-node l =
    IsRising l.leaves l.at (slice_index l.fn.counts (l.leaves + l.at) - l.less) l.fn.counts l.counts
    l.node

-- the way up to the root
abbrev pub decreases-loop-node : goal.decreases-loop-node
decreases-loop-node l = l.node
