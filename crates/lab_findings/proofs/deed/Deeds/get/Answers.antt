-- The map finds it.
use Rattle.lab_model.proofs.Common.{◌∙◌, ap, sym}
use Rattle.lab_findings.specs.Deeds.{deed_of}
use Rattle.lab_findings.proofs.Held.{found-at}
use Rattle.lab_findings.proofs.deed.Deeds.get.Goals as goal

pub returns : goal.returns
returns c = c.copied.ensures ∙ c.get.ensures.value
    ∙ sym (found-at c.self.inside.entries (c.args.origin.log, c.args.origin.line))
    ∙ ap (λ deeds. deed_of deeds c.args.origin) c.self.view_is
