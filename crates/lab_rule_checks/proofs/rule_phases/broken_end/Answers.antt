use Rattle.lab_model.proofs.Common.{refl}
use Rattle.lab_rule_checks.proofs.LeastRules.{behind, here}
use Rattle.lab_rule_checks.proofs.rule_phases.broken_end.Goals as goal

-- V7 is broken
pub returns-then-rests_at_end : goal.returns-then-rests_at_end
returns-then-rests_at_end g c = λ parts. here (c.rests_at_end.ensures parts) c.if-rests_at_end.true

-- V10 is, and V7 isn't
pub returns-then-is_before : goal.returns-then-is_before
returns-then-is_before g c = λ parts. behind (c.rests_at_end.ensures parts) c.if-rests_at_end.false
    (here c.is_before.ensures c.if-is_before.true)

-- neither is
pub returns-else-is_before : goal.returns-else-is_before
returns-else-is_before g c = λ parts. behind (c.rests_at_end.ensures parts) c.if-rests_at_end.false
    (behind c.is_before.ensures c.if-is_before.false refl)
