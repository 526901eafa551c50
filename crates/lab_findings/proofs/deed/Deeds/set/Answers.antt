-- The map has it there, and is as it was elsewhere.
use Rattle.lab_model.proofs.Common.{◌∙◌, ap, arith, subst, sym}
use Rattle.lab_findings.specs.Deeds.{NoneBehind, deeds_in, with_deed}
use Rattle.lab_findings.proofs.Behind.{behind-more, behind-put}
use Rattle.lab_findings.proofs.Held.{put-at}
use Rattle.lab_findings.proofs.deed.Deeds.set.Goals as goal

pub invariant_of-self-2 : goal.invariant_of-self-2
invariant_of-self-2 c =
    let latest = c.max-self-inside.result in
    let old = deeds_in c.self.inside.entries in
    subst (λ deeds. NoneBehind deeds latest)
    (sym (put-at c.self.inside.entries c.insert.new.self
    (c.args.origin.log, c.args.origin.line) c.args.deed c.in_ok-insert.ensures.updates))
    (behind-put old c.args.origin c.args.deed latest (omega (arith, c.max-self-inside.ensures))
    (behind-more old c.self.inside.latest latest (omega (arith, c.max-self-inside.ensures))
    c.self.invariant))

pub returns : goal.returns
returns c = put-at c.self.inside.entries c.insert.new.self
    (c.args.origin.log, c.args.origin.line) c.args.deed c.in_ok-insert.ensures.updates
    ∙ ap (λ deeds. with_deed deeds c.args.origin c.args.deed) c.self.view_is
