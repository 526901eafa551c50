-- The heights gone over are too low: the last of them has fewer words than are wanted.
use Rattle.std.proofs.Common.{◌*◌, ◌^◌, ◌<◌, ◌≡◌, suc, ℕ}
use Rattle.lab_index.proofs.growth.height_for.Given as goal

abbrev pub invariant-loop-height : goal.invariant-loop-height
invariant-loop-height l = (below : ℕ) → l.height ≡ suc below → 64 * 2 ^ below < l.reach
