-- The newest so far, and where the runs of claims that are left stand, make the whole.
use Rattle.lab_model.proofs.Common.{◌≡◌, ◌++◌, drop, length}
use Rattle.lab_watch.specs.Grids.{spelled_writers, writers_in}
use Rattle.lab_findings.specs.Settled.{all_newer}
use Rattle.lab_findings.proofs.newer.all_newer.Given as goal

abbrev pub invariant-loop-run : goal.invariant-loop-run
invariant-loop-run l =
    l.row ++ all_newer l.deeds l.number (spelled_writers (drop l.run-index l.run-items))
    (writers_in l.newest l.device l.place (length (spelled_writers (drop l.run-index l.run-items))))
    ≡ all_newer l.fn.deeds l.fn.number l.fn.claims
    (writers_in l.fn.newest l.fn.device l.fn.first (length l.fn.claims))
