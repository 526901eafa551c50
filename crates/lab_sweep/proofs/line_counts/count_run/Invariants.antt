-- What is counted and what is left to count make the whole.
use Rattle.lab_model.proofs.Common.{◌≡◌, drop}
use Rattle.lab_sweep.specs.ByLine.{count_run}
use Rattle.lab_sweep.proofs.line_counts.count_run.Given as goal

abbrev pub invariant-loop-one : goal.invariant-loop-one
invariant-loop-one l =
    count_run l.counts.entries l.seed (drop l.one-index l.noted)
    ≡ count_run l.fn.counts.entries l.fn.seed l.fn.noted
