-- A bit that is set changes one mark.
use Rattle.std.proofs.Common.{rules}
use Rattle.std.proofs.lemmas.Nat.Bits.{bit_at_set_same, bit_at_set_other}
use Rattle.lab_index.proofs.Ranks.{bits_of-changed}
use Rattle.lab_index.proofs.bits.with_bit.Goals as goal

-- the bit is set, and the others stay
pub returns : goal.returns
returns c = search (rules, bits_of-changed, bit_at_set_same, bit_at_set_other)
