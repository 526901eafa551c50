use Rattle.std.proofs.Common.{◌≡◌, ◌-◌, ◌≤◌, ◌<◌, ℕ}
use Rattle.lab_disk.specs.Pages.{IsMade}
use Rattle.lab_disk.proofs.disk.make_pages.Given as goal

-- the sectors stay as they were, and the pages of those gone over are made
abbrev pub invariant-loop-at : goal.invariant-loop-at
invariant-loop-at l = record {
  from : l.fn.span.first ≤ l.at;
  within : l.at ≤ l.end;
  same : l.pages.sectors ≡ l.initial.pages.sectors;
  made : (k : ℕ) → l.fn.span.first ≤ k → k < l.at → IsMade l.pages k;
}

-- the sectors to come
abbrev pub decreases-loop-at : goal.decreases-loop-at
decreases-loop-at l = l.end - l.at
