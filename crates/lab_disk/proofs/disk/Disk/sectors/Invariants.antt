use Rattle.std.proofs.Common.{◌≡◌, ◌-◌, ◌≤◌, drop, take}
use Rattle.std.specs.Vec.{vec_capacity, vec_len}
use Rattle.lab_disk.proofs.disk.Disk.sectors.Given as goal

-- the sectors gone over, with room for all of them
abbrev pub invariant-loop-at : goal.invariant-loop-at
invariant-loop-at l = record {
  from : l.fn.span.first ≤ l.at;
  within : l.at ≤ l.end;
  sectors : l.sectors.items
      ≡ take (l.at - l.fn.span.first) (drop l.fn.span.first l.self-inside.pages.sectors);
  len : vec_len l.sectors ≡ l.at - l.fn.span.first;
  room : vec_capacity l.sectors ≡ l.fn.span.len;
}

-- the sectors to come
abbrev pub decreases-loop-at : goal.decreases-loop-at
decreases-loop-at l = l.end - l.at
