use Rattle.dmlab_words.proofs.FlagLaws.{flags_told}
use Rattle.dmlab_words.proofs.laws.flags_are_told.Goals as goal

-- it was shown of all words
pub returns : goal.returns
returns c = record { told = flags_told }
