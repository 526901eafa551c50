use Rattle.lab_queue.proofs.Indexes.{ranked, next_is}
use Rattle.lab_queue.proofs.Ranks.{entry}
use Rattle.lab_queue.proofs.queue.DelayQueue.next_after.Goals as goal

-- no rank is above now, and what is due has its moment as rank
pub returns-in_err-above-clause-none : goal.returns-in_err-above-clause-none
returns-in_err-above-clause-none c = rw (c.from_residual.ensures, ← c.self.view_is) (λ id due is.
    c.in_err-above.ensures.none (entry due id) (ranked _ _ c.self.invariant.moments id due is))

-- the least rank above now
pub returns-clause-some : goal.returns-clause-some
returns-clause-some c =
    rw (← c.self.view_is) (next_is _ _ c.self.invariant.moments _ _ c.in_ok-above.ensures.some
    c.in_ok-above.ensures.first)
