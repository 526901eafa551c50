-- The way up stays above the leaf, and ends below the root.
use Rattle.std.proofs.Common.{◌≡◌, suc, ◌+◌, arith}
use Rattle.lab_index.proofs.Climb.{few-steps}
use Rattle.lab_index.proofs.Puts.{holds-above}
use Rattle.lab_index.proofs.counts.climb.Goals as goal

-- the steps are few
pub overflow_add-step : goal.overflow_add-step
overflow_add-step c =
    let way = c.loop-node.invariant in
    record { fits = omega (arith, few-steps 64 c.ranges.leaf.fits way.some way.holds) }

-- the node above has the leaf below it, and isn't the root, which counts more than k
pub loop-node-preserved : goal.loop-node-preserved
loop-node-preserved c =
    let next : c.loop-node.step + 1 ≡ suc c.loop-node.step = omega arith in
    rw next (record {
      some = grind (arith, c.requires.below, c.loop-node-test.true);
      holds = holds-above c.loop-node.invariant.holds;
    })
