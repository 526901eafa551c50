use Rattle.std.proofs.Common.{◌≡◌, ◌*◌, take}
use Rattle.std.specs.List.{concat}
use Rattle.std.specs.Vec.{vec_capacity, vec_len}
use Rattle.lab_disk.proofs.page.sectors_of.Given as goal

-- the sectors of the first bytes, with room for all
abbrev pub invariant-loop-i : goal.invariant-loop-i
invariant-loop-i l = record {
  bytes : concat l.sectors.items ≡ take (512 * l.i) l.bytes;
  len : vec_len l.sectors ≡ l.i;
  room : vec_capacity l.sectors ≡ l.count;
}
