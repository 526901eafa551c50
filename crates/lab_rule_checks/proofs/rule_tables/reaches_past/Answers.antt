use Rattle.lab_model.proofs.Common.{◌∙◌, ap, Decides-at}
use Rattle.lab_standing.specs.Stands.{standing_of}
use Rattle.lab_rule_checks.specs.Reach.{table_is_past}
use Rattle.lab_rule_checks.proofs.TableRules.{past_end-Decides}
use Rattle.lab_rule_checks.proofs.rule_tables.reaches_past.Goals as goal

-- some line reaches past its device
pub returns : goal.returns
returns g c = λ parts.
    let m = g.T.Target.meaning in
    let s = standing_of m c.args.standing.now in
    Decides-at c.some_line_reaches_past.result (table_is_past m s c.args.table.now)
    (c.some_line_reaches_past.ensures ∙ ap (table_is_past m s) c.lines.ensures.lines)
    (past_end-Decides m parts s c.args.table.now)
