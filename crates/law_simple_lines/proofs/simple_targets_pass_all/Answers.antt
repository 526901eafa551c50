-- Each type by its own lemma.
use Rattle.law_simple_lines.proofs.simple_targets_pass_all.Goals as goal
use Rattle.law_simple_lines.proofs.ExactLines.{any-passes, delay-passes, error-passes}
use Rattle.law_simple_lines.proofs.ExactLines.{linear-passes, zero-passes}

pub returns : goal.returns
returns g = record {
  linear = linear-passes;
  zero = zero-passes;
  error = error-passes;
  delay = delay-passes;
  any = any-passes;
}
