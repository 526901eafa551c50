-- One mark is set, and the words stay counted.
use Rattle.std.proofs.Common.{rules}
use Rattle.std.proofs.lemmas.List.{get_or_read}
use Rattle.lab_index.proofs.Members.{few-words}
use Rattle.lab_index.proofs.Sets.{inside_words, set-read}
use Rattle.lab_index.proofs.WordSets.{ones-more}
use Rattle.lab_index.proofs.set.NumberSet.insert.Goals as goal

-- there are few words
pub put_fuller-requires-clause-small : goal.put_fuller-requires-clause-small
put_fuller-requires-clause-small c = few-words c.self.invariant

-- which gets one bit more
pub put_fuller-requires-clause-more : goal.put_fuller-requires-clause-more
put_fuller-requires-clause-more c = search (rules, inside_words, ones-more, get_or_read)

-- its bit is changed
pub returns-clause-set : goal.returns-clause-set
returns-clause-set c = search (rules, set-read)
