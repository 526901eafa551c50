use Rattle.std.proofs.Common.{◌≡◌, ◌-◌, ◌≤◌, replicate}
use Rattle.lab_disk.specs.Disk.{put, zero_sector}
use Rattle.lab_disk.proofs.disk.clear_sectors.Given as goal

-- the sectors gone over are zero
abbrev pub invariant-loop-at : goal.invariant-loop-at
invariant-loop-at l = record {
  from : l.fn.span.first ≤ l.at;
  within : l.at ≤ l.end;
  zero : l.pages.sectors ≡ put l.initial.pages.sectors l.fn.span.first
      (replicate (l.at - l.fn.span.first) zero_sector);
  same_pages : l.pages.made ≡ l.initial.pages.made;
}

-- the sectors to come
abbrev pub decreases-loop-at : goal.decreases-loop-at
decreases-loop-at l = l.end - l.at
