-- What the answers of functions are searched with, each ruleset by its function's name.
use Rattle.lab_index.proofs.Ranks.{get_or-bits_of}
use Rattle.lab_index.proofs.Sets.{has_rank}
use Rattle.lab_index.proofs.WordSets.{some-left}
use Rattle.std.proofs.Common.{zero-add}
use Rattle.std.proofs.lemmas.Nat.Bits.{shr_and_one}

-- the mark is the bit, and the bit is what the shift and the mask leave
pub ruleset has_bit = (shr_and_one, get_or-bits_of)

-- with none to clear, the first of what is left is the k-th: its bit is set, and k stand before it
pub ruleset nth_by_clearing = (some-left, has_rank, zero-add)
