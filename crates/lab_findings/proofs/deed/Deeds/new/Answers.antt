-- None is known.
use Rattle.lab_model.proofs.Common.{sym, subst}
use Rattle.std.specs.FinMap as map
use Rattle.lab_findings.specs.Deeds.{NoneBehind}
use Rattle.lab_findings.proofs.Behind.{none-behind}
use Rattle.lab_findings.proofs.deed.Deeds.new.Goals as goal

pub invariant_of-result : goal.invariant_of-result
invariant_of-result c =
    subst (λ entries. NoneBehind (map.from_entries entries) 0) (sym c.new.ensures.empty)
    (none-behind 0)
