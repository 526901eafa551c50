use Rattle.std.proofs.Common.{arith}
use Rattle.lab_queue.proofs.Ranks.{entry}
use Rattle.lab_queue.proofs.moments.MomentQueue.least_due.Goals as goal

-- nothing is ranked, so nothing is held
pub returns-in_err-first-clause-none : goal.returns-in_err-first-clause-none
returns-in_err-first-clause-none c =
    rw (c.from_residual.ensures, ← c.self.view_is) (λ number moment is.
    absurd (c.in_err-first.ensures.none (entry moment number)
    ((c.self.invariant.moments (entry moment number)).1 is)))

-- the least moment is later than now
pub returns-then-first-now-clause-none : goal.returns-then-first-now-clause-none
returns-then-first-now-clause-none c = rw (← c.self.view_is) (λ number moment is.
    let least = c.in_ok-first.ensures.first (entry moment number)
    ((c.self.invariant.moments (entry moment number)).1 is) in
    omega (arith, least.0, c.if-first-now.true))

-- the first in the order of moments and numbers
pub returns-clause-some : goal.returns-clause-some
returns-clause-some c =
    let index = c.self.invariant.moments in
    rw (← c.self.view_is) (record {
      held = (index c.in_ok-first.first).0 c.in_ok-first.ensures.some;
      upto = c.if-first-now.false;
      least = λ number moment is upto.
          c.in_ok-first.ensures.first (entry moment number) ((index (entry moment number)).1 is);
    })
