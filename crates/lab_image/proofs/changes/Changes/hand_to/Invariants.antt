-- The sectors so far and those of the runs that are left are all, and the runs show where some are kept.
use Rattle.lab_model.proofs.Common.{◌≡◌, drop, length}
use Rattle.lab_watch.specs.Grids.{spelled_writers}
use Rattle.lab_image.specs.Changes.{handed}
use Rattle.lab_image.specs.Places.{ShowsKept}
use Rattle.lab_image.proofs.changes.Changes.hand_to.Given as goal

abbrev pub invariant-loop-run : goal.invariant-loop-run
invariant-loop-run l =
    let left = spelled_writers (drop l.run-index l.run-items) in
    let way = l.fn.way in
    record {
      above : l.at.above ≡ way.above;
      number : l.at.number ≡ way.number;
      all : handed l.self way.above l.at.place way.number l.at.sector (length left)
          ≡ handed l.fn.self way.above way.place way.number way.sector l.fn.count;
      shown : ShowsKept l.self way.above l.at.place left;
    }
