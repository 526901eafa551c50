use Rattle.lab_model.proofs.Common.{◌∙◌, sym}
use Rattle.lab_rule_checks.proofs.NameRules.{at-Decides}
use Rattle.lab_rule_checks.proofs.rule_remove.breaks_v8.Goals as goal

-- the device of the name is used or not
pub returns-in-Some : goal.returns-in-Some
returns-in-Some g c = λ parts. rw c.in-Remove.is
    (at-Decides _ _ _ _ (sym c.device_named.ensures ∙ c.in-Some.is) (c.is_used.ensures parts))
