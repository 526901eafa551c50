-- What is written and the logs that are left make the whole text.
use Rattle.lab_model.proofs.Common.{◌≡◌, ◌++◌, drop, flat_map, zip, log_text}
use Rattle.lab_core.proofs.report.push_logs.Given as goal

abbrev pub invariant-loop-place : goal.invariant-loop-place
invariant-loop-place l =
    l.out.items ++ flat_map log_text (drop l.place (zip l.plans l.logs))
    ≡ l.fn.out.items ++ flat_map log_text (zip l.fn.plans l.fn.logs)
