-- The outcome comes last.
use Rattle.lab_sweep.proofs.sweeper.Sweeper.add_told.Goals as goal

pub returns-clause-told : goal.returns-clause-told
returns-clause-told g c = (c.in_ok-outcome.outcome, c.in_ok-outcome.ensures, c.in_ok-push.ensures.items)
