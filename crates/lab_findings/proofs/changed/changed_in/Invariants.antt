-- Those found, and those among the sectors that are left, are all.
use Rattle.lab_model.proofs.Common.{◌≡◌, drop}
use Rattle.lab_watch.specs.Grids.{spelled_writers}
use Rattle.lab_findings.specs.Changes.{changed_hits}
use Rattle.lab_findings.specs.Wrongs.{joined, wrong_from}
use Rattle.lab_findings.proofs.changed.changed_in.Given as goal

abbrev pub invariant-loop-run : goal.invariant-loop-run
invariant-loop-run l =
    joined l.wrong (wrong_from l.place
    (changed_hits l.deeds (spelled_writers (drop l.run-index l.run-items)) l.rest))
    ≡ wrong_from l.fn.first (changed_hits l.fn.deeds l.fn.row l.fn.sectors)
