use Rattle.lab_model.proofs.Common.{rules, ◌∙◌, ap, sym, option_copied}
use Rattle.lab_rule_checks.proofs.rule_cycles.breaks_v11.Goals as goal

-- the table that is asked for is there
pub returns-in-Some : goal.returns-in-Some
returns-in-Some g c = λ parts is linked.
    c.closed_by.ensures parts (sym is ∙ ap (λ o. option_copied o) c.in-Some.is) linked

-- no table is there
pub returns-in-None : goal.returns-in-None
returns-in-None g c = search rules
