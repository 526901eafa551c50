-- The zeros below the lowest bit are its place.
use Rattle.std.proofs.Common.{rules}
use Rattle.std.proofs.Common.{w64, zero-add}
use Rattle.std.proofs.lemmas.Nat.Bits.{bit_at-trailing_zeros}
use Rattle.lab_index.proofs.Ranks.{get_or-bits_of, members-lowest}
use Rattle.lab_index.proofs.bits.lowest_bit.Goals as goal

-- it is the first member
pub returns-clause-members : goal.returns-clause-members
returns-clause-members c =
    let word = c.args.word in
    let lowest = bit_at-trailing_zeros w64 word c.requires c.ranges.word.fits in
    search (rules, zero-add, members-lowest, get_or-bits_of)
