-- The sectors so far, and those of the runs that are left, are all.
use Rattle.lab_model.proofs.Common.{◌≡◌, ◌++◌, drop}
use Rattle.lab_watch.specs.Grids.{spelled_writers}
use Rattle.lab_watch.proofs.row.Row.followed.Given as goal

abbrev pub invariant-loop-run : goal.invariant-loop-run
invariant-loop-run l =
    l.row ++ spelled_writers (drop l.run-index l.run-items) ≡ l.fn.self ++ l.fn.other
