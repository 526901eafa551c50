-- The words that are to come are those of the line.
use Rattle.std.proofs.Common.{refl}
use Rattle.lab_text.specs.Words.{words_left}
use Rattle.lab_text.proofs.words.Words.new.Goals as goal

pub returns : goal.returns
unfolding words_left
returns c = refl
