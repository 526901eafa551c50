-- The numbers so far are gone.
use Rattle.std.proofs.Common.{◌-◌, ◌≤◌, length}
use Rattle.lab_index.proofs.LeftCounts.{ArePassed}
use Rattle.lab_index.proofs.items.Numbered.next.Given as goal

abbrev pub invariant-loop-index : goal.invariant-loop-index
invariant-loop-index g l = record {
  from : l.from - 1 ≤ l.index;
  gone : ArePassed l.self-inside.places.items l.from l.index;
}

abbrev pub decreases-loop-index : goal.decreases-loop-index
decreases-loop-index g l = length l.self-inside.places.items - l.index
