use Rattle.lab_model.proofs.Common.{◌≡◌, ◌++◌, map, take, drop, starting}
use Rattle.lab_logs.proofs.logs.start_logs.Given as goal

-- the logs gone over have started
abbrev pub invariant-loop-log : goal.invariant-loop-log
invariant-loop-log l = l.log-items
    ≡ map (starting l.now) (take l.log-index l.initial.log-items)
    ++ drop l.log-index l.initial.log-items
