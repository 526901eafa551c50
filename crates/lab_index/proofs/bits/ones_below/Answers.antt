-- The ones of a masked word are the marks below a place.
use Rattle.std.proofs.Common.{arith}
use Rattle.std.proofs.lemmas.Nat.{one_shl, and_mask}
use Rattle.lab_index.proofs.Ranks.{take-bits_of, count_of-bits_of}
use Rattle.lab_index.proofs.bits.ones_below.Goals as goal

-- the mask leaves the bits below the place
pub returns : goal.returns
returns c =
    let below = take-bits_of 64 c.args.at c.args.word (omega arith) in
    rw (one_shl c.args.at 64 c.requires, and_mask c.args.word c.args.at, below, count_of-bits_of)
