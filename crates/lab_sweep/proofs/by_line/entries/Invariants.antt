-- What is listed and the counts that are left make all counts.
use Rattle.lab_model.proofs.Common.{◌≡◌, ◌++◌, drop}
use Rattle.lab_sweep.proofs.by_line.entries.Given as goal

abbrev pub invariant-loop-place : goal.invariant-loop-place
invariant-loop-place l =
    l.entries.items ++ drop l.place l.counts.entries ≡ l.fn.counts.entries
