use Rattle.lab_model.proofs.Common.{refl}
use Rattle.lab_rule_checks.proofs.LeastRules.{behind, here}
use Rattle.lab_rule_checks.proofs.rules.broken_name.Goals as goal

-- V1 is broken, and none before it
pub returns-then-breaks_v1 : goal.returns-then-breaks_v1
returns-then-breaks_v1 g c = λ parts is. here (c.breaks_v1.ensures parts is) c.if-breaks_v1.true

-- V2 is broken, and none before it
pub returns-then-breaks_v2 : goal.returns-then-breaks_v2
returns-then-breaks_v2 g c = λ parts is. behind (c.breaks_v1.ensures parts is) c.if-breaks_v1.false
    (here (c.breaks_v2.ensures parts) c.if-breaks_v2.true)

-- V3 is broken, and none before it
pub returns-then-breaks_v3 : goal.returns-then-breaks_v3
returns-then-breaks_v3 g c = λ parts is. behind (c.breaks_v1.ensures parts is) c.if-breaks_v1.false
    (behind (c.breaks_v2.ensures parts) c.if-breaks_v2.false
    (here (c.breaks_v3.ensures parts) c.if-breaks_v3.true))

-- none is broken
pub returns-else-breaks_v3 : goal.returns-else-breaks_v3
returns-else-breaks_v3 g c = λ parts is. behind (c.breaks_v1.ensures parts is) c.if-breaks_v1.false
    (behind (c.breaks_v2.ensures parts) c.if-breaks_v2.false
    (behind (c.breaks_v3.ensures parts) c.if-breaks_v3.false refl))
