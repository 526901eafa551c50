use Rattle.lab_model.proofs.Common.{not_from_Decides}
use Rattle.lab_rulebook.specs.ScriptRules as rules
use Rattle.lab_rule_checks.proofs.rule_remove.is_used.Goals as goal

-- a table refers to the device
pub returns-then-is_referred : goal.returns-then-is_referred
returns-then-is_referred g c = λ parts. (
  λ e. rules.by_table ((c.is_referred.ensures parts).0 e),
  λ _. c.if-is_referred.true,
)

-- none does, and the logs decide
pub returns-else-is_referred : goal.returns-else-is_referred
returns-else-is_referred g c = λ parts.
    let d = c.is_logged_now.ensures parts in (
      λ e. rules.by_log (d.0 e).0 (d.0 e).1,
      λ used. elim used [
        | rules.by_table at ↦
            absurd (not_from_Decides _ (c.is_referred.ensures parts) c.if-is_referred.false at)
        | rules.by_log phase at ↦ d.1 (phase, at)
      ],
    )
