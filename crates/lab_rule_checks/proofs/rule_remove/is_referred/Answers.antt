use Rattle.lab_model.proofs.Common.{◌∙◌, refl, sym, arith}
use Rattle.lab_rule_checks.proofs.NameRules.{never-Decides}
use Rattle.lab_rule_checks.proofs.StepRules.{referred, unreferred}
use Rattle.lab_rule_checks.proofs.rule_remove.is_referred.Goals as goal

-- this device refers to it
pub returns-then-refers : goal.returns-then-refers
returns-then-refers g c = λ parts. (
  λ _. referred _ parts c.args.standing.now c.loop-other.other c.args.device
      (sym c.refers.ensures ∙ c.if-refers.true),
  λ _. refl,
)

-- none does
pub returns : goal.returns
returns g c = λ parts. never-Decides (unreferred _ parts c.args.standing.now c.args.device
    (λ number within. c.loop-other.invariant number (omega arith)))
