-- They hold of every lawful meaning.
use Rattle.law_never_wrong.proofs.Events.{all-runs-fit, events-fit}
use Rattle.law_never_wrong.proofs.Runs.{opening-Fits}
use Rattle.law_never_wrong.proofs.runs_fit.Goals as goal

-- the opening state of a fine scenario fits
pub returns-clause-opening : goal.returns-clause-opening
returns-clause-opening g c = opening-Fits g.T.Target.meaning

-- each event that may come keeps the fact
pub returns-clause-event : goal.returns-clause-event
returns-clause-event g c = events-fit g.T.Target.meaning g.met.T.Target.lawful

-- so each run ends in a state that fits
pub returns-clause-run : goal.returns-clause-run
returns-clause-run g c = all-runs-fit g.T.Target.meaning g.met.T.Target.lawful
