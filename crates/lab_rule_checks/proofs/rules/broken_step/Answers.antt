use Rattle.lab_model.proofs.Common.{refl}
use Rattle.lab_rule_checks.proofs.LeastRules.{behind, here}
use Rattle.lab_rule_checks.proofs.rules.broken_step.Goals as goal

-- V7 is broken, and none before it
pub returns-then-breaks_v7 : goal.returns-then-breaks_v7
returns-then-breaks_v7 g c = λ parts. here (c.breaks_v7.ensures parts) c.if-breaks_v7.true

-- V8 is broken, and none before it
pub returns-then-breaks_v8 : goal.returns-then-breaks_v8
returns-then-breaks_v8 g c = λ parts. behind (c.breaks_v7.ensures parts) c.if-breaks_v7.false
    (here (c.breaks_v8.ensures parts) c.if-breaks_v8.true)

-- V9 is broken, and none before it
pub returns-then-breaks_v9 : goal.returns-then-breaks_v9
returns-then-breaks_v9 g c = λ parts. behind (c.breaks_v7.ensures parts) c.if-breaks_v7.false
    (behind (c.breaks_v8.ensures parts) c.if-breaks_v8.false
    (here (c.breaks_v9.ensures parts) c.if-breaks_v9.true))

-- V10 is broken, and none before it
pub returns-then-breaks_v10 : goal.returns-then-breaks_v10
returns-then-breaks_v10 g c = λ parts. behind (c.breaks_v7.ensures parts) c.if-breaks_v7.false
    (behind (c.breaks_v8.ensures parts) c.if-breaks_v8.false
    (behind (c.breaks_v9.ensures parts) c.if-breaks_v9.false
    (here (c.breaks_v10.ensures parts) c.if-breaks_v10.true)))

-- none is broken
pub returns-else-breaks_v10 : goal.returns-else-breaks_v10
returns-else-breaks_v10 g c = λ parts. behind (c.breaks_v7.ensures parts) c.if-breaks_v7.false
    (behind (c.breaks_v8.ensures parts) c.if-breaks_v8.false
    (behind (c.breaks_v9.ensures parts) c.if-breaks_v9.false
    (behind (c.breaks_v10.ensures parts) c.if-breaks_v10.false refl)))
