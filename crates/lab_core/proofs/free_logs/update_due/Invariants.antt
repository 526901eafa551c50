-- The marks of the logs before this one were set anew.
use Rattle.lab_core.proofs.FreeLines.{UpdatedBefore}
use Rattle.lab_core.proofs.free_logs.update_due.Given as goal

abbrev pub invariant-loop-due : goal.invariant-loop-due
invariant-loop-due g l =
    UpdatedBefore l.fn.scenario l.fn.state l.due-items l.due-index l.fn.free l.free
