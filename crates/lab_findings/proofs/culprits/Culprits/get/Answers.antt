-- The map finds it.
use Rattle.lab_model.proofs.Common.{◌∙◌, ap, sym}
use Rattle.lab_findings.specs.Culprits.{culprit_at}
use Rattle.lab_findings.proofs.Held.{found-at}
use Rattle.lab_findings.proofs.culprits.Culprits.get.Goals as goal

pub returns : goal.returns
returns c = c.copied.ensures ∙ c.get.ensures.value
    ∙ sym (found-at c.self.inside.entries (c.args.number, c.args.sector))
    ∙ ap (λ culprits. culprit_at culprits c.args.number c.args.sector) c.self.view_is
