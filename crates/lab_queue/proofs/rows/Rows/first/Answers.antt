use Rattle.std.proofs.Common.{sym, ◌∙◌}
use Rattle.lab_queue.proofs.Searches.{first-read}
use Rattle.lab_queue.proofs.rows.Rows.first.Goals as goal

-- the first entry of the first row
pub returns-clause-first : goal.returns-clause-first
returns-clause-first c = rw (← c.self.view_is) (c.first.ensures ∙ sym (first-read
    c.self.inside.rows.items c.in_ok-row.row.now (λ i d below. (c.self.invariant.filled i d below).0) c.in_ok-row.ensures.item.3.0
    c.in_ok-row.ensures.item.1))
