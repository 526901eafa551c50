-- The sectors so far and those of the runs that are left are all, and the runs show where some are kept.
use Rattle.lab_model.proofs.Common.{◌≡◌, drop, length}
use Rattle.lab_watch.specs.Grids.{spelled_writers}
use Rattle.lab_image.specs.Changes.{unmarked}
use Rattle.lab_image.specs.Places.{ShowsKept}
use Rattle.lab_image.proofs.changes.Changes.unmark.Given as goal

abbrev pub invariant-loop-run : goal.invariant-loop-run
invariant-loop-run l =
    let left = spelled_writers (drop l.run-index l.run-items) in
    record {
      all : unmarked l.self l.number l.sector (length left)
          ≡ unmarked l.fn.self l.fn.number l.fn.first l.fn.count;
      shown : ShowsKept l.self l.number l.sector left;
    }
