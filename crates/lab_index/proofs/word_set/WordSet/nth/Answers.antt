-- The bit that is found is that of the k-th member.
use Rattle.std.proofs.Common.{rules}
use Rattle.std.proofs.Common.{arith, zero-add}
use Rattle.lab_index.proofs.Ranks.{slice_get-members}
use Rattle.lab_index.proofs.word_set.WordSet.nth.Goals as goal

-- the rank is below the count of all members
pub nth_bit-requires : goal.nth_bit-requires
nth_bit-requires c = omega (arith, c.ones.ensures.ones)

-- the k-th member
pub returns-clause-nth : goal.returns-clause-nth
returns-clause-nth c = search (rules, slice_get-members, zero-add)
