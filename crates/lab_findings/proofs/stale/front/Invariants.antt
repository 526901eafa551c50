-- The runs gone over have no sector; those left get fewer.
use Rattle.lab_model.proofs.Common.{◌≡◌, length}
use Rattle.lab_watch.specs.Grids.{spelled_writers}
use Rattle.lab_findings.proofs.stale.front.Given as goal

abbrev pub invariant-loop-run : goal.invariant-loop-run
invariant-loop-run l = spelled_writers l.rest ≡ spelled_writers l.fn.runs

abbrev pub decreases-loop-run : goal.decreases-loop-run
decreases-loop-run l = length l.rest
