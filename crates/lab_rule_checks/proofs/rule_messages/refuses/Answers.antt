use Rattle.lab_model.proofs.Common.{rules, ◌≤◌, sym, arith, line_at-image, slice_get-map, size_of}
use Rattle.lab_text.specs.Words.{words_left}
use Rattle.lab_table.proofs.Lines.{line_at-has}
use Rattle.lab_rule_checks.proofs.NameRules.{past-refuses}
use Rattle.lab_rule_checks.proofs.rule_messages.refuses.Goals as goal

-- no line has a sector past the end
pub returns-then-sector-size : goal.returns-then-sector-size
returns-then-sector-size g c =
    let past : size_of c.args.table.now ≤ c.args.sector = omega (arith, c.size.ensures) in
    sym (past-refuses g.T.Target.meaning c.args.table.now c.args.sector
    (words_left c.args.words) c.lines-lines.ensures.table.are_lines.no_gap past)

-- the line that has the sector takes the message or not
pub returns-in-Some : goal.returns-in-Some
returns-in-Some g c = search (rules, line_at-image, slice_get-map)

-- the line is there
pub returns-in-None : goal.returns-in-None
returns-in-None g c =
    let has = line_at-has c.args.table.now c.args.sector c.line_at.result c.line_at.ensures in
    search rules
