-- The way up makes all nodes right again.
use Rattle.std.proofs.Common.{rules, ◌≡◌, arith, ℕ}
use Rattle.std.proofs.lemmas.List.{get_or-drop, get_or-set_other}
use Rattle.lab_index.proofs.Puts.{leaf-le}
use Rattle.lab_index.proofs.Rising.{rising-ends, rising-on, rising-starts}
use Rattle.lab_index.proofs.counts.lower.Goals as goal

-- one is taken from the leaf and from the count of all, and the nodes above the leaf may be wrong
pub loop-node-init : goal.loop-node-init
loop-node-init c = search (rules, rising-starts, get_or-set_other)

-- a node has no less than the leaf had
pub overflow_sub-counts-in-loop-node : goal.overflow_sub-counts-in-loop-node
overflow_sub-counts-in-loop-node c = search (rules, leaf-le)

-- the node is right, and those above it may be wrong
pub loop-node-preserved : goal.loop-node-preserved
loop-node-preserved c = search (rules, rising-on)

-- above the last node there is none
pub returns-clause-tree : goal.returns-clause-tree
returns-clause-tree c =
    let none : c.loop-node.node ≡ 0 = omega (arith, c.loop-node-test.false) in
    let leaf = rw (get_or-drop {A = ℕ}) at (c.requires.tree.low.low c.args.at) in
    rising-ends _ _ _ _ c.requires.inside c.requires.tree _ (omega (arith, leaf))
    (rw none at c.loop-node.invariant)
