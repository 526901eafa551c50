use Rattle.lab_model.proofs.Common.{refl}
use Rattle.lab_rule_checks.proofs.LeastRules.{behind, here}
use Rattle.lab_rule_checks.proofs.rule_files.broken_use.Goals as goal

-- V12 is broken
pub returns-then-breaks_v12 : goal.returns-then-breaks_v12
returns-then-breaks_v12 g c =
    here (c.breaks_v12.ensures c.args.files.now) c.if-breaks_v12.true

-- V13 is, and V12 isn't
pub returns-then-breaks_v13 : goal.returns-then-breaks_v13
returns-then-breaks_v13 g c =
    behind (c.breaks_v12.ensures c.args.files.now) c.if-breaks_v12.false
    (here c.breaks_v13.ensures c.if-breaks_v13.true)

-- V14 is, and neither V12 nor V13 is
pub returns-then-breaks_v14 : goal.returns-then-breaks_v14
returns-then-breaks_v14 g c =
    behind (c.breaks_v12.ensures c.args.files.now) c.if-breaks_v12.false
    (behind c.breaks_v13.ensures c.if-breaks_v13.false
    (here c.breaks_v14.ensures c.if-breaks_v14.true))

-- none is
pub returns-else-breaks_v14 : goal.returns-else-breaks_v14
returns-else-breaks_v14 g c =
    behind (c.breaks_v12.ensures c.args.files.now) c.if-breaks_v12.false
    (behind c.breaks_v13.ensures c.if-breaks_v13.false
    (behind c.breaks_v14.ensures c.if-breaks_v14.false refl))
