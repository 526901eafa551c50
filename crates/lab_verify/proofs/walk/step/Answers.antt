use Rattle.lab_model.proofs.Common.{rules}
use Rattle.lab_script.specs.Task.{task_of}
use Rattle.lab_standing.specs.Stands.{standing_of}
use Rattle.lab_verify.proofs.ToldRules.{least-told, none-told, script-all}
use Rattle.lab_verify.proofs.walk.step.Goals as goal

-- no rule is broken, and the command is done
pub returns-in-Ok-None-clause-told : goal.returns-in-Ok-None-clause-told
returns-in-Ok-None-clause-told g c = λ parts has sound.
    let m = g.T.Target.meaning in (
      none-told
          (script-all m parts (standing_of m c.args.standing.now) (task_of c.args.line.now.command))
          c.in-Ok-None.field-0-is (c.in-Ok-None.ensures.told parts has sound),
      c.in-Ok-None.ensures.stands parts has sound c.in-Ok-None.field-0-is,
    )

-- the least rule is told
pub returns-in-Ok-Some-clause-told : goal.returns-in-Ok-Some-clause-told
returns-in-Ok-Some-clause-told g c = λ parts has sound.
    let m = g.T.Target.meaning in
    let told = least-told
    (script-all m parts (standing_of m c.args.standing.now) (task_of c.args.line.now.command))
    c.in-Ok-Some.rule c.in-Ok-Some.field-0-is (c.in-Ok-Some.ensures.told parts has sound) in
    search rules
