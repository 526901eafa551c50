-- A line of a log that isn't wrong does what its entry says.
use Rattle.lab_model.proofs.Common.{rules, ◌≡◌, ℕ, List, None, IsSome, OnOk, Result}
use Rattle.lab_model.proofs.Common.{change_numbered, numbered, Next, next_line, LogState}
use Rattle.lab_model.specs.declared.plan.LogLine.{LogLine}
use Rattle.lab_model.proofs.Common.{State}
use Rattle.lab_model.specs.LogEffect.{after_line}
use Rattle.lab_model.specs.Moves.{Moves}
use Rattle.lab_effect.specs.Logs.{line_at_log, operation_of}

-- so it does, where the log has taken it, to the state whose other fields are those that are seen
pub entry_done : {S A E : Type 0} (r : Result A E) (s seen : State S) (number : ℕ)
    (line : LogLine) (logs : List LogState) → seen ≡ s → IsSome (numbered s.logs number)
    → operation_of line.entry ≡ None → Moves (line_at_log s number line)
    → OnOk r (logs ≡ change_numbered seen.logs number
    (λ log. after_line line.device line.entry (next_line log)))
    → OnOk r (line_at_log s number line ≡ Next (record seen { logs = logs }))
entry_done r s seen number line logs is there none moves done = search rules
