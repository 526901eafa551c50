-- They hold of every lawful meaning.
use Rattle.law_never_wrong.proofs.Events.{all-lists-are-runs, all-never-wrong}
use Rattle.law_never_wrong.proofs.never_wrong.Goals as goal

-- each list of events that may come where they stand is a run
pub returns-clause-list : goal.returns-clause-list
returns-clause-list g c = all-lists-are-runs g.T.Target.meaning g.met.T.Target.lawful

-- after each run no event that may come is wrong
pub returns-clause-event : goal.returns-clause-event
returns-clause-event g c = all-never-wrong g.T.Target.meaning g.met.T.Target.lawful
