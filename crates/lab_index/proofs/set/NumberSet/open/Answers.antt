-- All words are counted, so any may be the one that changes.
use Rattle.lab_index.proofs.Changing.{counted-any}
use Rattle.lab_index.proofs.set.NumberSet.open.Goals as goal

-- here the first
pub invariant_of-result : goal.invariant_of-result
invariant_of-result c = counted-any 0 c.words.invariant
