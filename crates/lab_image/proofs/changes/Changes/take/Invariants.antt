-- The sectors so far and those of the runs that are left are all, and the runs show where some are kept.
use Rattle.lab_model.proofs.Common.{◌≡◌, drop, length}
use Rattle.lab_watch.specs.Grids.{spelled_writers}
use Rattle.lab_image.specs.Changes.{taken_over}
use Rattle.lab_image.specs.Places.{ShowsKept}
use Rattle.lab_image.proofs.changes.Changes.take.Given as goal

abbrev pub invariant-loop-run : goal.invariant-loop-run
invariant-loop-run l =
    let left = spelled_writers (drop l.run-index l.run-items) in
    record {
      above : l.at.above ≡ l.fn.above;
      number : l.at.number ≡ l.fn.number;
      all : taken_over l.fn.from l.fn.above l.at.place l.self l.fn.number l.at.sector (length left)
          ≡ taken_over l.fn.from l.fn.above 0 l.fn.self l.fn.number l.fn.first l.fn.count;
      shown : ShowsKept l.fn.from l.fn.above l.at.place left;
    }
