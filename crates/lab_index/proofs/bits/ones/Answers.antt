-- The ones of the word are as many as its members.
use Rattle.lab_index.proofs.WordSets.{count-word}
use Rattle.lab_index.proofs.bits.ones.Goals as goal

-- its ones are its members
pub returns-clause-members : goal.returns-clause-members
returns-clause-members c = count-word c.args.word c.ranges.word.fits
