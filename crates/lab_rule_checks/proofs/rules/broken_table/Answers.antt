use Rattle.lab_model.proofs.Common.{◌∙◌, refl, inr, sym, ap, option_copied}
use Rattle.lab_script.specs.Task.{task_of}
use Rattle.lab_standing.specs.Stands.{standing_of}
use Rattle.lab_rule_checks.proofs.TableRules.{v4-none, v5-none}
use Rattle.lab_rule_checks.proofs.rules.broken_table.Goals as goal

-- the table that is asked for is there
pub returns-in-Some : goal.returns-in-Some
returns-in-Some g c = λ parts is.
    c.broken_by.ensures parts (sym is ∙ ap (λ o. option_copied o) c.in-Some.is)

-- no table is there
pub returns-in-None : goal.returns-in-None
returns-in-None g c = λ parts is.
    let m = g.T.Target.meaning in
    let s = standing_of m c.args.standing.now in
    let task = task_of c.args.command in
    let none = sym is ∙ ap (λ o. option_copied o) c.in-None.is in
    inr (v4-none m parts s task none, inr (v5-none m parts s task none, refl))
