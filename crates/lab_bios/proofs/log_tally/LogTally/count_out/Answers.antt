-- The number of the parent's log is taken out.
use Rattle.lab_model.proofs.Common.{rules}
use Rattle.lab_bios.proofs.log_tally.LogTally.count_out.Goals as goal

-- it stands there, since the bio was counted
pub remove-requires : goal.remove-requires
remove-requires c =
    let has = c.requires c.from.result in
    search rules
