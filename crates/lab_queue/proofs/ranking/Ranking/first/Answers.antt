use Rattle.lab_queue.proofs.Searches.{first-of-all}
use Rattle.lab_queue.proofs.ranking.Ranking.first.Goals as goal

-- the first entry is the first of all, and without one there is none
pub returns : goal.returns
returns c =
    let first = first-of-all _ _ c.self.invariant.ranked c.first.ensures.first in
    rw (← c.self.view_is) (record { some = first.0; first = first.1; none = first.2 })
