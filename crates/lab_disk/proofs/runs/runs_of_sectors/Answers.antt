use Rattle.std.proofs.Common.{rules, ◌∙◌, sym}
use Rattle.lab_text.proofs.RunsLemmas.{runs_list-nil}
use Rattle.lab_disk.proofs.Sequence.{concat-more}
use Rattle.lab_disk.proofs.runs.runs_of_sectors.Goals as goal

-- no sector is gone over
pub loop-sector-init : goal.loop-sector-init
loop-sector-init c = c.none-runs.ensures ∙ sym runs_list-nil

-- one more sector's bytes follow
pub loop-sector-preserved : goal.loop-sector-preserved
loop-sector-preserved c = search (rules, concat-more)
