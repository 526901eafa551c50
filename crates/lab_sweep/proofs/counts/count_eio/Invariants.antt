-- What is counted and what the logs that are left have make the whole count.
use Rattle.lab_model.proofs.Common.{◌≡◌, ◌+◌, drop}
use Rattle.std.proofs.Common.{count_by}
use Rattle.std.specs.List.{fold}
use Rattle.lab_sweep.specs.SeedLine.{eio_count, is_eio}
use Rattle.lab_sweep.proofs.counts.count_eio.Given as goal

abbrev pub invariant-loop-log : goal.invariant-loop-log
invariant-loop-log l =
    fold (λ a log. a + count_by (λ answer. is_eio answer.outcome) log.answers) l.count
    (drop l.log-index l.logs) ≡ eio_count l.fn.logs
