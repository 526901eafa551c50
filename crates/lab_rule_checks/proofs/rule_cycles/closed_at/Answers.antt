use Rattle.lab_model.proofs.Common.{◌∙◌, sym, IfOk-weaker}
use Rattle.lab_rule_checks.proofs.NameRules.{at-Decides, never-Decides}
use Rattle.lab_rule_checks.proofs.rule_cycles.closed_at.Goals as goal

-- the device of the name decides
pub returns-in-Some : goal.returns-in-Some
returns-in-Some g c = λ linked. IfOk-weaker c.closes_cycle.result _ _ (λ told closes.
    at-Decides _ _ _ told (sym c.device_named.ensures ∙ c.in-Some.is) closes)
    (c.closes_cycle.ensures linked)

-- no device has the name
pub returns-in-None : goal.returns-in-None
returns-in-None g c = λ linked. never-Decides (λ f. let named = f.1 in cc)
