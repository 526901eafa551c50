-- Each line that is told so far removes the fault.
use Rattle.std.proofs.Common.{All}
use Rattle.lab_refusal.specs.Faults.{fault_seen}
use Rattle.dmlab_run.specs.Tried.{RemovesOne}
use Rattle.dmlab_run.proofs.trial.tried.Given as goal

abbrev pub invariant-loop-mend : goal.invariant-loop-mend
invariant-loop-mend l =
    (goal.iterator-loop-mend).can_next l.mend-iterator
    × (goal.iterator-loop-mend).is_finite l.mend-iterator
    × All (RemovesOne l.beside l.bytes (fault_seen l.fault)) l.told.items
