-- The sectors so far and those of the runs that are left are all.
use Rattle.std.proofs.Common.{◌≡◌, ◌+◌, ◌*◌, ◌≤◌, ◌^◌, drop, length}
use Rattle.lab_watch.specs.Grids.{spelled_writers}
use Rattle.lab_watch.proofs.row.count_in.Given as goal

abbrev pub invariant-loop-run : goal.invariant-loop-run
invariant-loop-run l = record {
  so_far : l.count + length (spelled_writers (drop l.run-index l.runs))
      ≡ length (spelled_writers l.runs);
  within : l.count ≤ l.run-index * 2 ^ 64;
}
