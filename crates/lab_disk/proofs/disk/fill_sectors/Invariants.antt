use Rattle.std.proofs.Common.{◌≡◌, ◌-◌, ◌≤◌, replicate}
use Rattle.lab_disk.specs.Disk.{put}
use Rattle.lab_disk.proofs.disk.fill_sectors.Given as goal

-- the sectors gone over are filled
abbrev pub invariant-loop-at : goal.invariant-loop-at
invariant-loop-at l = record {
  from : l.fn.span.first ≤ l.at;
  within : l.at ≤ l.end;
  filled : l.pages.sectors ≡ put l.initial.pages.sectors l.fn.span.first
      (replicate (l.at - l.fn.span.first) (replicate 512 l.byte));
  made : l.pages.made ≡ l.initial.pages.made;
}

-- the sectors to come
abbrev pub decreases-loop-at : goal.decreases-loop-at
decreases-loop-at l = l.end - l.at
