-- Each call has one row less.
use Rattle.std.proofs.Common.{length}
use Rattle.lab_watch.proofs.sheets.+lay_down.Given as goal

abbrev pub decreases-lay_down : goal.decreases-lay_down
decreases-lay_down l = length l.sheets.now
