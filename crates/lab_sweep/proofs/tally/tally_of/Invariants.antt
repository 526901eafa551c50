-- What is counted and the outcomes that are left make the whole tally.
use Rattle.lab_model.proofs.Common.{◌≡◌, bytes_eq, drop}
use Rattle.std.specs.List.{fold}
use Rattle.lab_sweep.specs.Tally.{counted_seed, tally}
use Rattle.lab_sweep.proofs.tally.tally_of.Given as goal

abbrev pub invariant-loop-outcome : goal.invariant-loop-outcome
invariant-loop-outcome l =
    fold (λ counts outcome. counted_seed bytes_eq counts outcome.digest outcome.seed) l.counts.entries
    (drop l.outcome-index l.outcomes) ≡ tally l.fn.outcomes
