use Rattle.std.proofs.Common.{◌≡◌, ◌+◌, ◌++◌, take}
use Rattle.std.specs.Vec.{vec_capacity, vec_len}
use Rattle.lab_disk.proofs.page.copy_all.Given as goal

-- the sectors gone over are copied, and the memory stays the same
abbrev pub invariant-loop-sector : goal.invariant-loop-sector
invariant-loop-sector l = record {
  copied : l.copies.items ≡ l.initial.copies.items ++ take l.sector-index l.sectors;
  len : vec_len l.copies ≡ vec_len l.initial.copies + l.sector-index;
  room : vec_capacity l.copies ≡ vec_capacity l.initial.copies;
}
