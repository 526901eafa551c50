-- The generator that a number seeds.
use Rattle.lab_model.proofs.Common.{rules}
use Rattle.lab_core.specs.Words.{seeded}
use Rattle.lab_core.proofs.simulate.seed_generator.Goals as goal

pub returns : goal.returns
unfolding seeded
returns c = search rules
