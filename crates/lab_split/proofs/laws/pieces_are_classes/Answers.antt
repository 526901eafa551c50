-- They hold of every lawful meaning, and the target's own is lawful.
use Rattle.lab_split.proofs.Classes.{pieces-are-classes, pieces-differ}
use Rattle.lab_split.proofs.Flush.{flush-counted, flush-ordered}
use Rattle.lab_split.proofs.laws.pieces_are_classes.Goals as goal

-- any two pieces differ in line or block
pub returns-clause-apart : goal.returns-clause-apart
returns-clause-apart g c = pieces-differ g.T.Target.meaning g.met.T.Target.lawful

-- sectors are in one piece exactly when they are of one class
pub returns-clause-classes : goal.returns-clause-classes
returns-clause-classes g c = pieces-are-classes g.T.Target.meaning g.met.T.Target.lawful

-- a flush has a piece for each line
pub returns-clause-flush_count : goal.returns-clause-flush_count
returns-clause-flush_count g c = flush-counted g.T.Target.meaning

-- and in order
pub returns-clause-flush : goal.returns-clause-flush
returns-clause-flush g c = flush-ordered g.T.Target.meaning
