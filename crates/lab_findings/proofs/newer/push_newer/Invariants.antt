-- The newest so far, and at the runs that are left, make the whole.
use Rattle.lab_model.proofs.Common.{◌≡◌, ◌++◌, drop, length}
use Rattle.lab_watch.specs.Grids.{side_by_side, spelled_writers}
use Rattle.lab_findings.specs.Settled.{all_newer}
use Rattle.lab_findings.proofs.newer.push_newer.Given as goal

abbrev pub invariant-loop-run : goal.invariant-loop-run
invariant-loop-run l =
    l.row ++ all_newer l.deeds l.number
    (side_by_side (length (spelled_writers (drop l.run-index l.run-items))) l.claim)
    (spelled_writers (drop l.run-index l.run-items))
    ≡ l.fn.row ++ all_newer l.fn.deeds l.fn.number
    (side_by_side (length l.fn.others) l.fn.claim) l.fn.others
