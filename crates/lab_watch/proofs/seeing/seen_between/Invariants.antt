-- The row so far and what is seen from the place on make the whole.
use Rattle.std.proofs.Common.{◌≡◌, ◌≤◌, ◌+◌, ◌-◌, ◌++◌}
use Rattle.lab_watch.specs.Stretches.{seen_row}
use Rattle.lab_watch.proofs.Rising.{Rises}
use Rattle.lab_watch.proofs.seeing.seen_between.Given as goal

abbrev pub invariant-loop-end : goal.invariant-loop-end
invariant-loop-end l = record {
  from : l.first ≤ l.place;
  upward : l.place ≤ l.last;
  rises : Rises (l.place + 1) l.end-iterator;
  so_far : l.row ++ seen_row l.end-iterator l.place (l.last - l.place)
      ≡ seen_row l.stretches.entries l.first (l.last - l.first);
}
