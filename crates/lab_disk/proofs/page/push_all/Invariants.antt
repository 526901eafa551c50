use Rattle.std.proofs.Common.{◌≡◌, ◌++◌, take}
use Rattle.std.specs.List.{concat}
use Rattle.lab_disk.proofs.page.push_all.Given as goal

-- the bytes of the sectors gone over
abbrev pub invariant-loop-sector : goal.invariant-loop-sector
invariant-loop-sector l =
    l.bytes.items ≡ l.initial.bytes.items ++ concat (take l.sector-index l.sectors)
