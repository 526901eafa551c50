use Rattle.std.proofs.Common.{◌≡◌, replicate, take}
use Rattle.lab_disk.proofs.page.fill_all.Given as goal

-- the sectors gone over have the one byte
abbrev pub invariant-loop-sector : goal.invariant-loop-sector
invariant-loop-sector l =
    take l.sector-index l.sectors ≡ replicate l.sector-index (replicate 512 l.byte)
