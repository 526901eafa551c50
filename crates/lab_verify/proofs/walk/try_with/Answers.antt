use Rattle.lab_model.proofs.Common.{◌∙◌, sym}
use Rattle.lab_script.specs.Task.{task_of}
use Rattle.lab_standing.specs.Stands.{standing_of}
use Rattle.lab_verify.proofs.ToldRules.{none-told, script-all}
use Rattle.lab_verify.proofs.walk.try_with.Goals as goal

-- a rule is told
pub returns-in-Some-clause-told : goal.returns-in-Some-clause-told
returns-in-Some-clause-told g c = λ parts logs meant sound. rw (sym c.in-Some.is)
    (c.in_ok-rule.ensures parts (c.as_ref.ensures.value ∙ meant) sound.linked)

-- none is told
pub returns-in_ok-take_command-in-None-clause-told : goal.returns-in_ok-take_command-in-None-clause-told
returns-in_ok-take_command-in-None-clause-told g c = λ parts logs meant sound. rw c.in-None.is at
    (c.in_ok-rule.ensures parts (c.as_ref.ensures.value ∙ meant) sound.linked)

-- the command is done
pub returns-in_ok-take_command-in-None-clause-stands : goal.returns-in_ok-take_command-in-None-clause-stands
returns-in_ok-take_command-in-None-clause-stands g c = λ parts logs meant sound none.
    let m = g.T.Target.meaning in
    c.in_ok-take_command-in-None.ensures.stands parts logs meant sound (none-told
    (script-all m parts (standing_of m c.args.standing.now) (task_of c.args.command)) c.in-None.is
    (c.in_ok-rule.ensures parts (c.as_ref.ensures.value ∙ meant) sound.linked))
