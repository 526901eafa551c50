use Rattle.lab_model.proofs.Common.{Decides-at}
use Rattle.lab_rule_checks.proofs.StepRules.{some_rests-Decides}
use Rattle.lab_rule_checks.proofs.rule_phases.breaks_v7.Goals as goal

-- at a wait, whether some device doesn't run
pub returns-in-Wait : goal.returns-in-Wait
returns-in-Wait g c = λ parts. rw c.in-Wait.is (Decides-at _ _ c.some_rests.ensures
    (some_rests-Decides g.T.Target.meaning parts c.args.standing.now))
