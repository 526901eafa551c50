use Rattle.lab_model.proofs.Common.{refl}
use Rattle.lab_script.specs.Task.{task_of}
use Rattle.lab_standing.specs.Stands.{standing_of}
use Rattle.lab_rule_checks.proofs.LeastRules.{behind, here}
use Rattle.lab_rule_checks.proofs.TableRules.{v4-Decides}
use Rattle.lab_rule_checks.proofs.rules.broken_by.Goals as goal

-- V4 is broken, and none before it
pub returns-then-reaches_past : goal.returns-then-reaches_past
returns-then-reaches_past g c = λ parts is.
    let s = standing_of g.T.Target.meaning c.args.standing.now in
    here (v4-Decides g.T.Target.meaning parts s (task_of c.args.command) _ _ is
    (c.reaches_past.ensures parts)) c.if-reaches_past.true

-- V5 is broken, and none before it
pub returns-then-breaks_v5 : goal.returns-then-breaks_v5
returns-then-breaks_v5 g c = λ parts is.
    let s = standing_of g.T.Target.meaning c.args.standing.now in
    behind (v4-Decides g.T.Target.meaning parts s (task_of c.args.command) _ _ is
    (c.reaches_past.ensures parts)) c.if-reaches_past.false
    (here (c.breaks_v5.ensures parts is) c.if-breaks_v5.true)

-- none is broken
pub returns-else-breaks_v5 : goal.returns-else-breaks_v5
returns-else-breaks_v5 g c = λ parts is.
    let s = standing_of g.T.Target.meaning c.args.standing.now in
    behind (v4-Decides g.T.Target.meaning parts s (task_of c.args.command) _ _ is
    (c.reaches_past.ensures parts)) c.if-reaches_past.false
    (behind (c.breaks_v5.ensures parts is) c.if-breaks_v5.false refl)
