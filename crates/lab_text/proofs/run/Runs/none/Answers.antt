-- No byte is packed, and the last run has none.
use Rattle.std.proofs.Common.{rules, refl}
use Rattle.lab_text.specs.Packed.{run_of}
use Rattle.lab_text.proofs.PackedLemmas.{begun_after-nil, unpacked-none}
use Rattle.lab_text.proofs.run.Runs.none.Goals as goal

-- nothing is begun
pub invariant_of-result : goal.invariant_of-result
invariant_of-result c = search (rules, begun_after-nil)

-- there is no run
pub returns : goal.returns
returns c = unpacked-none c.new.result.items (run_of 0 0) c.new.ensures.items refl
