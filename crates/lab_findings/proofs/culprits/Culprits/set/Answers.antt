-- The map has it there, and is as it was elsewhere.
use Rattle.lab_model.proofs.Common.{◌∙◌, ap}
use Rattle.lab_findings.specs.Culprits.{with_culprit}
use Rattle.lab_findings.proofs.Held.{put-at}
use Rattle.lab_findings.proofs.culprits.Culprits.set.Goals as goal

pub returns : goal.returns
returns c = put-at c.self.inside.entries c.insert.new.self (c.args.number, c.args.sector)
    c.args.culprit c.in_ok-insert.ensures.updates
    ∙ ap (λ culprits. with_culprit culprits c.args.number c.args.sector c.args.culprit)
    c.self.view_is
