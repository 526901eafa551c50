-- The generator's next word.
use Rattle.lab_core.specs.Words.{drawn}
use Rattle.lab_core.proofs.simulate.draw.Goals as goal

pub returns : goal.returns
unfolding drawn
returns c = c.next_word.ensures
