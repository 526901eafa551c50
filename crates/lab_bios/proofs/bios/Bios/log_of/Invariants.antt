-- The log of the parent so far is that of the bio; each step up leaves one step less.
use Rattle.lab_model.proofs.Common.{◌≡◌}
use Rattle.lab_bios.specs.Origin.{log_of}
use Rattle.lab_bios.proofs.Parents.{log_within}
use Rattle.lab_bios.proofs.bios.Bios.log_of.Given as goal

abbrev pub invariant-loop-parent : goal.invariant-loop-parent
invariant-loop-parent l =
    log_within l.self.items l.left l.parent
    ≡ log_of l.fn.self.items l.fn.number

abbrev pub decreases-loop-parent : goal.decreases-loop-parent
decreases-loop-parent l = l.left
