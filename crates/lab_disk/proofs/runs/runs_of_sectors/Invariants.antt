use Rattle.std.proofs.Common.{◌≡◌, take}
use Rattle.std.specs.List.{concat}
use Rattle.lab_text.specs.Runs.{runs_list}
use Rattle.lab_disk.proofs.runs.runs_of_sectors.Given as goal

-- the runs of the sectors gone over
abbrev pub invariant-loop-sector : goal.invariant-loop-sector
invariant-loop-sector l = l.runs ≡ runs_list (concat (take l.sector-index l.sectors))
