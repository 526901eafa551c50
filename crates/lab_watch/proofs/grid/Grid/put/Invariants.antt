-- What is put and the runs that are left make the whole.
use Rattle.std.proofs.Common.{◌≡◌, drop}
use Rattle.lab_watch.specs.Grids.{spelled_writers, with_writers_from}
use Rattle.lab_watch.proofs.grid.Grid.put.Given as goal

abbrev pub invariant-loop-run : goal.invariant-loop-run
invariant-loop-run l = with_writers_from l.self l.number l.sector
    (spelled_writers (drop l.run-index l.run-items))
    ≡ with_writers_from l.fn.self l.number l.first l.fn.row
