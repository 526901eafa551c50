-- A bit that is cleared changes one mark.
use Rattle.std.proofs.Common.{rules}
use Rattle.std.proofs.lemmas.Nat.Bits.{bit_at_clear_same, bit_at_clear_other}
use Rattle.lab_index.proofs.Ranks.{bits_of-changed}
use Rattle.lab_index.proofs.bits.without_bit.Goals as goal

-- the bit is clear, and the others stay
pub returns : goal.returns
returns c = search (rules, bits_of-changed, bit_at_clear_same, bit_at_clear_other)
