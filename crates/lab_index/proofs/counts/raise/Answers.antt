-- The way up makes all nodes right again.
use Rattle.std.proofs.lemmas.Bool.Decides.{nat_tests}
use Rattle.std.proofs.Common.{rules, ◌≡◌, arith}
use Rattle.std.proofs.lemmas.List.{get_or-set_other}
use Rattle.lab_index.proofs.Puts.{all-few, holder-is_node, node-few}
use Rattle.lab_index.proofs.Rising.{rising-ends, rising-on, rising-starts}
use Rattle.lab_index.proofs.counts.raise.Goals as goal

-- the count of all fits
pub overflow_add-counts-3 : goal.overflow_add-counts-3
overflow_add-counts-3 c = search (rules, all-few, get_or-set_other)

-- the leaf and the count of all are raised, and the nodes above the leaf may be wrong
pub loop-node-init : goal.loop-node-init
loop-node-init c = search (rules, rising-starts, get_or-set_other)

-- the count of a node fits
pub overflow_add-counts-in-loop-node : goal.overflow_add-counts-in-loop-node
overflow_add-counts-in-loop-node c = grind (arith, nat_tests, holder-is_node, node-few)

-- the node is right, and those above it may be wrong
pub loop-node-preserved : goal.loop-node-preserved
loop-node-preserved c = search (rules, rising-on)

-- above the last node there is none
pub returns-clause-tree : goal.returns-clause-tree
returns-clause-tree c =
    let none : c.loop-node.node ≡ 0 = omega (arith, c.loop-node-test.false) in
    rising-ends _ _ _ _ c.requires.inside c.requires.tree _ c.requires.few
    (rw none at c.loop-node.invariant)
