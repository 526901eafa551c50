use Rattle.lab_model.proofs.Common.{Decides-at}
use Rattle.std.proofs.Common.{option_copied}
use Rattle.lab_script.specs.Task.{task_of}
use Rattle.lab_standing.specs.Stands.{standing_of}
use Rattle.lab_rule_checks.proofs.NameRules.{v1-Decides}
use Rattle.lab_rule_checks.proofs.rule_names.breaks_v1.Goals as goal

-- the device's name is unknown
pub returns-then-is_unknown : goal.returns-then-is_unknown
returns-then-is_unknown g c = λ parts is. Decides-at c.is_unknown.result _
    (rw (← c.device.ensures, ← c.is_unknown.ensures, c.if-is_unknown.true))
    (v1-Decides g.T.Target.meaning parts (standing_of g.T.Target.meaning c.args.standing.now)
    (task_of c.args.command) (option_copied c.args.table) is)

-- the name is known, and the table decides
pub returns-else-is_unknown : goal.returns-else-is_unknown
returns-else-is_unknown g c = λ parts is. Decides-at c.is_missing.result _
    (rw (
      ← c.device.ensures,
      ← c.is_unknown.ensures,
      c.if-is_unknown.false,
      ← c.table.ensures,
    ) c.is_missing.ensures)
    (v1-Decides g.T.Target.meaning parts (standing_of g.T.Target.meaning c.args.standing.now)
    (task_of c.args.command) (option_copied c.args.table) is)
