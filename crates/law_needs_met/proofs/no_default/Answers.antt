-- They hold of every lawful meaning, and the target's own is lawful.
use Rattle.law_needs_met.proofs.Whole.{accepted-finds-all, all-events-find, all-parents-fly}
use Rattle.law_needs_met.proofs.Whole.{all-pieces-name-lines}
use Rattle.law_needs_met.proofs.no_default.Goals as goal

-- events find what they name
pub returns-clause-event : goal.returns-clause-event
returns-clause-event g c = all-events-find g.T.Target.meaning g.met.T.Target.lawful

-- answers find whom they go to
pub returns-clause-parent : goal.returns-clause-parent
returns-clause-parent g c = all-parents-fly g.T.Target.meaning g.met.T.Target.lawful

-- pieces find their lines
pub returns-clause-piece : goal.returns-clause-piece
returns-clause-piece g c = all-pieces-name-lines g.T.Target.meaning g.met.T.Target.lawful

-- so it is in each accepted scenario
pub returns-clause-accepted : goal.returns-clause-accepted
returns-clause-accepted g c = accepted-finds-all g.T.Target.meaning g.met.T.Target.lawful
