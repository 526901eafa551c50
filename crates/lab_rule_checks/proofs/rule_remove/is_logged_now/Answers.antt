use Rattle.lab_model.proofs.Common.{rules}
use Rattle.lab_rule_checks.proofs.StepRules.{logged-Decides}
use Rattle.lab_rule_checks.proofs.rule_remove.is_logged_now.Goals as goal

-- the logs run, and the logs decide
pub returns-then-has_replayed : goal.returns-then-has_replayed
returns-then-has_replayed g c = λ parts.
    let d = logged-Decides g.T.Target.meaning parts c.args.standing.now c.args.device in
    search rules

-- the logs don't run
pub returns-else-has_replayed : goal.returns-else-has_replayed
returns-else-has_replayed g c = λ parts. (λ e. cc, λ f. c.has_replayed.ensures.1 f.0)
