use Rattle.std.proofs.Common.{◌≡◌, replicate}
use Rattle.std.specs.Vec.{vec_capacity, vec_len}
use Rattle.lab_disk.specs.Disk.{zero_sector}
use Rattle.lab_disk.proofs.page.blank_page.Given as goal

-- zero sectors so far, with room for all
abbrev pub invariant-loop-i : goal.invariant-loop-i
invariant-loop-i l = record {
  zero : l.page.items ≡ replicate l._i zero_sector;
  len : vec_len l.page ≡ l._i;
  room : vec_capacity l.page ≡ 64;
}
