-- The marks before this place were set anew.
use Rattle.lab_core.proofs.FreeLines.{UpdatedTo}
use Rattle.lab_core.proofs.free_logs.update_all.Given as goal

abbrev pub invariant-loop-place : goal.invariant-loop-place
invariant-loop-place g l = UpdatedTo l.fn.scenario l.fn.state l.place l.fn.free l.free
