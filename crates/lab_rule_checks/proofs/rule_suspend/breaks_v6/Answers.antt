use Rattle.lab_model.proofs.Common.{rules, ◌∙◌, sym, IfOk-weaker}
use Rattle.lab_script.specs.Task.{task_of}
use Rattle.lab_standing.specs.Stands.{standing_of}
use Rattle.lab_rule_checks.proofs.TableRules.{v6-some}
use Rattle.lab_rule_checks.proofs.rule_suspend.breaks_v6.Goals as goal

-- a device is suspended: what lies below it decides
pub returns-in-Some : goal.returns-in-Some
returns-in-Some g c = λ parts. IfOk-weaker c.rests_below.result _ _
    (λ told below. v6-some g.T.Target.meaning parts
    (standing_of g.T.Target.meaning c.args.standing.now) (task_of c.args.command)
    c.in-Some.device told (sym c.suspends.ensures ∙ c.in-Some.is) below)
    (c.rests_below.ensures parts)

-- none is
pub returns-in-None : goal.returns-in-None
returns-in-None g c = search rules
