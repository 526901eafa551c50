use Rattle.std.proofs.Common.{◌≡◌, ◌-◌, ◌≤◌, drop, take}
use Rattle.std.specs.List.{concat}
use Rattle.lab_disk.proofs.disk.Disk.read.Given as goal

-- the bytes of the sectors gone over
abbrev pub invariant-loop-at : goal.invariant-loop-at
invariant-loop-at l = record {
  from : l.fn.span.first ≤ l.at;
  within : l.at ≤ l.end;
  bytes : l.bytes.items ≡ concat
      (take (l.at - l.fn.span.first) (drop l.fn.span.first l.self-inside.pages.sectors));
}

-- the sectors to come
abbrev pub decreases-loop-at : goal.decreases-loop-at
decreases-loop-at l = l.end - l.at
