-- The word that changes is counted, and so are all.
use Rattle.lab_index.proofs.Changing.{few-words_but}
use Rattle.lab_index.proofs.marking.Marking.close.Goals as goal

-- there are few words
pub settled-first-requires-clause-small : goal.settled-first-requires-clause-small
settled-first-requires-clause-small c = rw c.deref.ensures.value (few-words_but c.self.invariant)
