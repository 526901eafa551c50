-- The way down ends in the leaf with the k-th.
use Rattle.std.proofs.lemmas.Bool.{cases_lt}
use Rattle.std.proofs.lemmas.Bool.Decides.{nat_tests}
use Rattle.std.proofs.Common.{rules, ◌≡◌, ℕ, ◌+◌, ◌*◌, ◌-◌, List, length, take, drop, arith}
use Rattle.std.proofs.lemmas.List.{get_or-drop, length-drop, take_all}
use Rattle.std.proofs.lemmas.Nat.{one_shl}
use Rattle.lab_index.specs.Tree.{before}
use Rattle.lab_index.proofs.Climb.{rest-sum, stands-in_row, IsAbove}
use Rattle.lab_index.proofs.Descent.{goes-on, in-list, stands-at}
use Rattle.lab_index.proofs.counts.leaf_of.Goals.{After-climb-start}
use Rattle.lab_index.proofs.counts.leaf_of.Goals as goal

-- a part to the end is all from its start on
tail : (counts : List ℕ) (start : ℕ) → take (length counts - start) (drop start counts)
    ≡ drop start counts
tail counts start = take_all _ _ (omega (arith, length-drop start counts))

-- the node where the way up ends is one above the leaf
above : (c : After-climb-start)
    → IsAbove c.args.height c.args.first c.climb-start.result.1 c.climb-start.result.0
above c = search (rules, cases_lt, length-drop, take_all, one_shl)

-- from there on more than k are counted
pub place_of-place-requires : goal.place_of-place-requires
place_of-place-requires c =
    let all = rest-sum c.args.height c.args.first c.args.k c.requires.tree c.requires.passed
    c.requires.below (above (goal.at.place_of-place-requires c).After-climb-start) in
    rw (tail c.args.counts.now c.climb-start.result.0) (omega (arith, c.requires.below, all))

-- so the k-th stands below it, or below a node behind it
pub loop-step-init : goal.loop-step-init
loop-step-init c =
    let found = rw (tail c.args.counts.now c.climb-start.result.0) at c.place_of-place.ensures in
    stands-in_row c.args.height c.args.first c.args.k c.requires.tree c.requires.passed
    c.requires.below (above (goal.at.loop-step-init c).After-climb-start) _ _
    (record { inside = found.inside; rank = found.rank; few = found.rest })

-- the children of a node are in the list
pub slice_bounds-place_of-end-in-loop-step : goal.slice_bounds-place_of-end-in-loop-step
slice_bounds-place_of-end-in-loop-step c =
    let on = goes-on c.requires.tree c.loop-step-test.true c.loop-step.invariant in
    omega (arith, in-list c.requires.tree on.are)

-- they count more than the rest
pub place_of-place-requires-in-loop-step : goal.place_of-place-requires-in-loop-step
place_of-place-requires-in-loop-step c =
    let on = goes-on c.requires.tree c.loop-step-test.true c.loop-step.invariant in
    search rules

-- and it goes on below one of them
pub loop-step-preserved : goal.loop-step-preserved
loop-step-preserved c =
    let on = goes-on c.requires.tree c.loop-step-test.true c.loop-step.invariant in
    let width : 16 * c.loop-step.node + 16 - 16 * c.loop-step.node ≡ 16 = omega arith in
    let found = c.place_of-place-in-loop-step.ensures in
    stands-at c.requires.tree on.are on.rank (search rules)

-- no step is left, so the node is a leaf, and has the k-th
pub returns : goal.returns
unfolding before
returns c = grind (arith, nat_tests, one_shl, get_or-drop)
