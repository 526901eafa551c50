use Rattle.lab_model.proofs.Common.{◌≡◌, map, opening_log, take}
use Rattle.lab_effect.proofs.opening_state.opening_logs.Given as goal

-- the logs gone over are there
abbrev pub invariant-loop-plan : goal.invariant-loop-plan
invariant-loop-plan l = l.logs ≡ map opening_log (take l.plan-index l.plans)
