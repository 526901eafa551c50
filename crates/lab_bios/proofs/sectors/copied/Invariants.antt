-- The sectors gone over are copied.
use Rattle.lab_model.proofs.Common.{◌≡◌, take}
use Rattle.lab_bios.proofs.sectors.copied.Given as goal

abbrev pub invariant-loop-sector : goal.invariant-loop-sector
invariant-loop-sector l = l.out.items ≡ take l.sector-index l.sectors
