-- The next number's group counts one more.
use Rattle.std.proofs.Common.{arith}
use Rattle.lab_index.proofs.LeftCounts.{counted-more, counted-new}
use Rattle.lab_index.proofs.rows.count_next.Goals as goal

-- of 64 numbers fewer than 64 came before
pub overflow_add-index_mut : goal.overflow_add-index_mut
overflow_add-index_mut c =
    let more = counted-more c.args.places.now c.args.left.now.items 1 c.index_mut.result.now
    c.requires.counted (omega (arith, c.args.left.now.ok.0, c.requires.counted.enough))
    (omega arith) c.index_mut.ensures.value in
    omega (arith, more.0)

-- it may be the first one of a new group
pub returns-then-group-len-clause-counted : goal.returns-then-group-len-clause-counted
returns-then-group-len-clause-counted c = λ place some.
    rw c.push_reserved.ensures.items (counted-new c.args.places.now c.args.left.now.items place
    c.requires.counted (omega (arith, c.args.left.now.ok.0)) some)

-- or a later one
pub returns-else-group-len-clause-counted : goal.returns-else-group-len-clause-counted
returns-else-group-len-clause-counted c = λ place some.
    (counted-more c.args.places.now c.args.left.now.items place c.index_mut.result.now
    c.requires.counted (omega (arith, c.args.left.now.ok.0, c.requires.counted.enough)) some
    c.index_mut.ensures.value).1
