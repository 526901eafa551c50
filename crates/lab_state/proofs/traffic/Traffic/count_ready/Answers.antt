-- The marked bios are counted: an event may come to each of them, and to no other.
use Rattle.lab_model.proofs.Common.{◌∙◌}
use Rattle.lab_state.proofs.Ready.{length_ready}
use Rattle.lab_state.proofs.traffic.Traffic.count_ready.Goals as goal

-- as many members as events
pub returns : goal.returns
returns g c = rw (← c.self.view_is) (c.count.ensures ∙ length_ready c.self.invariant.indexed.marked)
