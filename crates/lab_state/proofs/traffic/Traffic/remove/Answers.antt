-- A device that is gone decides nothing for a bio that doesn't depend on it.
use Rattle.lab_model.proofs.Common.{None}
use Rattle.lab_state.proofs.Modes.{marked_changed}
use Rattle.lab_state.proofs.traffic.Traffic.remove.Goals as goal

-- so such a bio is still marked as it is to be
pub mark_dependents-requires-clause-others : goal.mark_dependents-requires-clause-others
mark_dependents-requires-clause-others g c =
    marked_changed c.remove.new.self.slots c.args.device c.self.invariant.indexed.marked
    (λ _. None) c.remove.ensures.slots
