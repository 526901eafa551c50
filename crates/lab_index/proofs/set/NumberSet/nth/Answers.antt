-- The leaf and the bit that are found are those of the k-th member.
use Rattle.lab_index.proofs.Puts.{all-few}
use Rattle.lab_index.proofs.Members.{few-words, count-members, none-passed, some-words}
use Rattle.lab_index.proofs.Members.{count_of-take_row, get_or-row_of}
use Rattle.std.proofs.Common.{rules, ◌<◌, ◌≡◌, ◌^◌, ◌∙◌, length, arith}
use Rattle.lab_index.proofs.Ranks.{slice_get-members}
use Rattle.std.proofs.lemmas.List.{get_or_read}
use Rattle.lab_index.specs.Numbers.{members}
use Rattle.lab_index.specs.Words.{row_of}
use Rattle.lab_index.proofs.set.NumberSet.nth.Goals.{After-deref}
use Rattle.lab_index.proofs.set.NumberSet.nth.Goals as goal

-- the rank is below the count of all members
below : (c : After-deref) → c.args.k < length (members (row_of c.self.inside.words.items))
below c = search rules

-- which fits 32 bits
pub overflow_cast-k : goal.overflow_cast-k
overflow_cast-k c = search (rules, all-few, few-words, count-members, below)

-- and is what the root counts
pub leaf_of-at-requires-clause-below : goal.leaf_of-at-requires-clause-below
leaf_of-at-requires-clause-below c =
    rw c.deref.ensures.value (omega (arith, count-members c.self.invariant, below c))

-- the words before the first that may have members have none
pub leaf_of-at-requires-clause-passed : goal.leaf_of-at-requires-clause-passed
leaf_of-at-requires-clause-passed c = search (rules, some-words, below, none-passed)

-- the leaf's word has the k-th member at the place of its bit
pub returns : goal.returns
returns c =
    let words = c.self.inside.words in
    let some = some-words words.items c.args.k (below (goal.at.returns c).After-deref) in
    let power : length words.items ≡ 2 ^ c.self.inside.height = c.self.invariant.power some in
    let inside : c.leaf_of-at.result.0 < length words.items =
    omega (arith, c.leaf_of-at.ensures.inside) in
    let read = get_or_read words.items c.leaf_of-at.result.0 c.index.result.now inside
    c.index.ensures 0 in
    let rank = rw (c.deref.ensures.value, ← power, c.self.invariant.bits.leaves)
    at c.leaf_of-at.ensures.rank in
    let row = row_of words.items in
    let i = c.leaf_of-at.result.0 in
    let place = c.nth_bit.result in
    let here = get_or-row_of words.items i place inside c.nth_bit.ensures.inside
    ∙ rw read at c.nth_bit.ensures.set in
    let bits = rw read at c.nth_bit.ensures.rank in
    let rows = count_of-take_row words.items i place c.self.invariant.bits.fits inside (omega arith) in
    search (rules, slice_get-members)
