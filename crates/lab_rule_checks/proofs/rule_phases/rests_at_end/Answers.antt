use Rattle.lab_model.proofs.Common.{rules, ◌∙◌, Decides-not}
use Rattle.lab_rule_checks.proofs.StepRules.{some_rests-Decides}
use Rattle.lab_rule_checks.proofs.rule_phases.rests_at_end.Goals as goal

-- a device doesn't run, and the wait decides
pub returns-then-some_rests : goal.returns-then-some_rests
returns-then-some_rests g c = λ parts.
    let d = some_rests-Decides g.T.Target.meaning parts c.args.standing.now in
    let waits = Decides-not c.has_waited.result c.has_waited.ensures in
    search rules

-- all devices run
pub returns-else-some_rests : goal.returns-else-some_rests
returns-else-some_rests g c = λ parts.
    let d = some_rests-Decides g.T.Target.meaning parts c.args.standing.now in
    (λ e. cc, λ f. c.some_rests.ensures ∙ d.1 f.1)
