-- The first run has the first byte and those of its value after it.
use Rattle.std.proofs.Common.{rules, ◌≡◌, ◌-◌, drop, take, length, arith}
use Rattle.std.proofs.lemmas.Grind.{common_steps}
use Rattle.lab_text.proofs.RunsLemmas.{runs_list-cons}
use Rattle.lab_text.proofs.run.first_run.Goals as goal

-- the run, and the runs of the bytes after it
pub returns-clause-first : goal.returns-clause-first
returns-clause-first c =
    let bytes = c.args.bytes.now in
    let n = c.run_len-count.result in
    let shorter : take (length bytes - n) (drop n bytes) ≡ drop n bytes =
    grind (arith, common_steps) in
    rw (shorter, c.run_len-count.ensures.exact)
    (search (rules, runs_list-cons, c.in_ok-first.ensures.cases.0))
