-- Before the first event each count is zero.
use Rattle.lab_model.proofs.Common.{◌≡◌, ◌+◌, length, replicate, ap, ◌∙◌}
use Rattle.lab_any.specs.Any.{any_meaning}
use Rattle.lab_any.specs.AnyLaws.{any-lawful}
use Rattle.lab_runner.proofs.Keeps.{counted-shared}
use Rattle.lab_runner.proofs.Owned.{counts-first}
use Rattle.lab_runner.proofs.shared.Shared.new.Goals as goal

-- so the laboratory may be under the lock
pub invariant_of-result : goal.invariant_of-result
invariant_of-result g c =
    let lab = c.args.lab in
    let zeroes : c.in-Ok.counts.items ≡ replicate (length lab.scenario.logs + 2) 0 =
    c.in-Ok.ensures ∙ ap (λ n. replicate (n + 2) 0) c.count_logs.ensures.count in
    counted-shared any_meaning any-lawful g.N.Naming.scenario _ c.requires.named
    c.count_logs.ensures.running (rw (c.requires.first, zeroes, ← c.requires.named)
    (counts-first any_meaning lab.scenario))
