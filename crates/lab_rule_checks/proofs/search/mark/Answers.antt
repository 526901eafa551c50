use Rattle.lab_model.proofs.Common.{true, sym, arith, change-past, change-set}
use Rattle.lab_rule_checks.proofs.search.mark.Goals as goal

-- the device's mark is set
pub returns-in-Some : goal.returns-in-Some
returns-in-Some c =
    sym (change-set c.args.marks.now.items c.args.device (λ mark. true) _ c.in-Some.ensures.value)

-- no such device
pub returns-in_default : goal.returns-in_default
returns-in_default c = grind (arith, change-past)
