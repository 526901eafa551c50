use Rattle.std.proofs.Common.{◌<◌, ℕ, List, get_or}
use Rattle.lab_disk.specs.Disk.{IsSector}
use Rattle.lab_disk.proofs.page.are_sectors.Given as goal

-- those gone over have 512 bytes
abbrev pub invariant-loop-sector : goal.invariant-loop-sector
invariant-loop-sector l =
    (k : ℕ) (d : List ℕ) → k < l.sector-index → IsSector (get_or l.sectors k d)
