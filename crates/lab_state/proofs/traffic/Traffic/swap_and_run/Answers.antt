-- A device whose tables are swapped decides nothing for a bio that doesn't depend on it.
use Rattle.lab_model.proofs.Common.{option_map, swapped}
use Rattle.lab_state.proofs.Modes.{marked_changed}
use Rattle.lab_state.proofs.traffic.Traffic.swap_and_run.Goals as goal

-- so such a bio is still marked as it is to be
pub mark_dependents-requires-clause-others : goal.mark_dependents-requires-clause-others
mark_dependents-requires-clause-others g c =
    marked_changed c.swap_and_run.new.self.slots c.args.device c.self.invariant.indexed.marked
    (option_map swapped) c.swap_and_run.ensures.slots
