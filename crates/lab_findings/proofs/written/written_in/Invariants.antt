-- Those found, and those among the runs that are left, are all.
use Rattle.lab_model.proofs.Common.{◌≡◌, drop}
use Rattle.lab_watch.specs.Grids.{spelled_writers}
use Rattle.lab_findings.specs.Judged.{written_hits}
use Rattle.lab_findings.specs.Wrongs.{joined, wrong_from}
use Rattle.lab_findings.proofs.written.written_in.Given as goal

abbrev pub invariant-loop-run : goal.invariant-loop-run
invariant-loop-run l =
    joined l.wrong (wrong_from l.place
    (written_hits (spelled_writers (drop l.run-index l.run-items))))
    ≡ wrong_from l.fn.first (written_hits l.fn.row)
