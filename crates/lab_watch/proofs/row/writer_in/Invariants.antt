-- The sector is so far behind the first of the runs that are left.
use Rattle.std.proofs.Common.{◌≡◌, None, drop, get_or}
use Rattle.lab_watch.specs.Grids.{spelled_writers}
use Rattle.lab_watch.proofs.row.writer_in.Given as goal

abbrev pub invariant-loop-run : goal.invariant-loop-run
invariant-loop-run l = get_or (spelled_writers (drop l.run-index l.runs)) l.left None
    ≡ get_or (spelled_writers l.runs) l.sector None
