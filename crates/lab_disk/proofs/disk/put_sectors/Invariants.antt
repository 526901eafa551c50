use Rattle.std.proofs.Common.{◌≡◌, ◌-◌, ◌≤◌, drop, take}
use Rattle.lab_disk.specs.Disk.{put}
use Rattle.lab_disk.proofs.disk.put_sectors.Given as goal

-- the sectors gone over are put, and the others are as they were given
abbrev pub invariant-loop-at : goal.invariant-loop-at
invariant-loop-at l = record {
  from : l.fn.span.first ≤ l.at;
  within : l.at ≤ l.end;
  put : l.pages.sectors ≡ put l.initial.pages.sectors l.fn.span.first
      (take (l.at - l.fn.span.first) l.initial.sectors);
  made : l.pages.made ≡ l.initial.pages.made;
  others : drop (l.at - l.fn.span.first) l.sectors
      ≡ drop (l.at - l.fn.span.first) l.initial.sectors;
}

-- the sectors to come
abbrev pub decreases-loop-at : goal.decreases-loop-at
decreases-loop-at l = l.end - l.at
