use Rattle.lab_model.proofs.Common.{◌≡◌, ◌≤◌, ℕ, get_or, length, map, take}
use Rattle.lab_rulebook.specs.Walked.{bound_log}
use Rattle.lab_standing.specs.Stands.{standing_of}
use Rattle.lab_verify.specs.NamedLogs.{named_log_part}
use Rattle.lab_verify.specs.Steps.{TellsLogs}
use Rattle.lab_verify.specs.declared.parts.NamedLog.{NamedLog}
use Rattle.lab_verify.proofs.replayed.bound_logs.Given as goal

-- the logs gone over are bound, and their first fault is told; the others are as they were
abbrev pub invariant-loop-place : goal.invariant-loop-place
invariant-loop-place g l = record {
  plans : l.plans.items ≡ map (λ log. bound_log (standing_of g.T.Target.meaning l.standing)
      (named_log_part log)) (take l.place l.fn.logs.items);
  fault : TellsLogs (standing_of g.T.Target.meaning l.standing) l.plans.items l.fault;
  count : length l.logs.items ≡ length l.fn.logs.items;
  rest : (later : ℕ) (log : NamedLog) → l.place ≤ later
      → get_or l.logs.items later log ≡ get_or l.fn.logs.items later log;
}
