-- A log's number stands in the tally as often as living bios were made for the log.
use Rattle.lab_model.proofs.Common.{ap, ◌∙◌, nat_lt, Bio, is_log}
use Rattle.lab_bios.specs.Living.{bios_of, living_of}
use Rattle.lab_bios.proofs.Sums.{some-counted}
use Rattle.lab_bios.proofs.bios.Bios.has_log.Goals as goal

-- it stands there where one was
pub returns : goal.returns
returns c =
    rw (← c.self.view_is) (c.has.ensures ∙ ap (nat_lt 0) (c.self.invariant.tallied c.args.log)
    ∙ some-counted (λ (bio : Bio). is_log c.args.log bio.parent)
    (living_of (bios_of c.self.inside.living.items)))
