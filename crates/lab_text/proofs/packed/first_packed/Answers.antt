-- The first byte is the value, and the digits make the count.
use Rattle.std.proofs.Common.{rules, arith}
use Rattle.std.proofs.lemmas.List.{nil_from_length}
use Rattle.lab_text.proofs.PackedLemmas.{unpacked-cons, unpacked-nil}
use Rattle.lab_text.proofs.packed.first_packed.Goals as goal

-- no byte has no run
pub returns-in_err-value-clause-first : goal.returns-in_err-value-clause-first
returns-in_err-value-clause-first c = search (rules, nil_from_length, unpacked-nil)

-- the value begins a run
pub loop-digit-init : goal.loop-digit-init
loop-digit-init c = search (rules, arith, unpacked-cons)

-- the last digit ends it
pub returns-then-digit-lt128-clause-first : goal.returns-then-digit-lt128-clause-first
returns-then-digit-lt128-clause-first c = search (rules, unpacked-cons)

-- another digit belongs to it
pub loop-digit-preserved : goal.loop-digit-preserved
loop-digit-preserved c = search (rules, arith, unpacked-cons)

-- no byte is left
pub returns-clause-first : goal.returns-clause-first
returns-clause-first c = search (rules, nil_from_length, unpacked-nil)
