use Rattle.lab_queue.proofs.OnceEach.{none-due}
use Rattle.lab_queue.proofs.Ranks.{entry}
use Rattle.lab_queue.proofs.moments.MomentQueue.first_due.Goals as goal

-- nothing is ranked, so nothing is held
pub returns-in_err-lowest-clause-none : goal.returns-in_err-lowest-clause-none
returns-in_err-lowest-clause-none c = rw (c.from_residual.ensures, ← c.self.view_is)
    (none-due _ _ c.self.invariant.moments c.in_err-lowest.ensures.none)

-- the first in the order of moments
pub returns-clause-some : goal.returns-clause-some
returns-clause-some c =
    let index = c.self.invariant.moments in
    let x = c.in_ok-lowest.lowest in
    rw (← c.self.view_is) (record {
      held = (x.id, (index x).0 c.in_ok-lowest.ensures.some);
      least = λ number other is.
          (c.in_ok-lowest.ensures.first (entry other number) ((index (entry other number)).1 is)).0;
    })
