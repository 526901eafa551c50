-- The numbers of the tally are those of the logs that living bios were made for.
use Rattle.lab_model.proofs.Common.{◌∙◌}
use Rattle.lab_bios.specs.Living.{bios_of}
use Rattle.lab_bios.proofs.Tallies.{within-logs}
use Rattle.lab_bios.proofs.bios.Bios.has_log_within.Goals as goal

-- so one of them is within where one such log is
pub returns : goal.returns
returns c = rw (← c.self.view_is) (c.has_within.ensures
    ∙ within-logs c.args.count (bios_of c.self.inside.living.items) c.self.inside.logs.logs
    c.self.invariant.tallied)
