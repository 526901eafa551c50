-- The place that is found has the k-th bit.
use Rattle.std.proofs.Common.{rules}
use Rattle.std.proofs.Common.{◌≡◌, arith, add-one}
use Rattle.lab_index.specs.Words.{marks_of}
use Rattle.lab_index.proofs.Ranks.{count-marks, length-bits_of, take-bits_of, set_where_passed}
use Rattle.lab_index.proofs.bits.nth_by_halving.Goals as goal

-- all bits of the word stand before the 64th place
pub loop-level-init : goal.loop-level-init
loop-level-init c = search (rules, take-bits_of, count-marks)

-- with no halving to go, the place is that of the k-th bit: it is set, and k stand before it
pub returns : goal.returns
returns c =
    let none : c.loop-level.level ≡ 0 = omega arith in
    let here = rw none at c.loop-level.invariant.inside in
    let found = set_where_passed (marks_of c.args.word) c.loop-level.low c.args.k
    (omega (arith, here, length-bits_of 64 c.args.word)) c.loop-level.invariant.before
    (rw (none, add-one) at c.loop-level.invariant.after) in
    record { inside = omega (arith, here); set = found.0; rank = found.1 }
