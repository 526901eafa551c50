-- What is written and the lines that are left make the whole text.
use Rattle.lab_model.proofs.Common.{◌≡◌, ◌++◌, drop, flat_map}
use Rattle.lab_sweep.specs.SeedLine.{seed_line}
use Rattle.lab_sweep.proofs.sweep_lines.push_outcomes.Given as goal

abbrev pub invariant-loop-outcome : goal.invariant-loop-outcome
invariant-loop-outcome l =
    l.out.items ++ flat_map seed_line (drop l.outcome-index l.outcomes)
    ≡ l.fn.out.items ++ flat_map seed_line l.fn.outcomes
