-- Which leaves are filled so far.
use Rattle.std.proofs.Common.{◌≡◌, drop, length}
use Rattle.lab_index.specs.Tree.{AddsUp}
use Rattle.lab_index.proofs.Writes.{filled}
use Rattle.lab_index.proofs.counts.tree_of.Given as goal

-- the nodes add up, and the leaves of the words gone over are filled
abbrev pub invariant-loop-at : goal.invariant-loop-at
invariant-loop-at l = record {
  tree : AddsUp (length l.words) l.counts.items;
  leaves : drop (length l.words) l.counts.items ≡ filled l.words l.at;
}
