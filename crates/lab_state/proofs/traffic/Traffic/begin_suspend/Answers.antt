-- A device that drains decides nothing for a bio that doesn't depend on it.
use Rattle.lab_model.proofs.Common.{option_map, with_mode}
use Rattle.lab_model.specs.declared.micro.Mode.TheVariants.{Draining}
use Rattle.lab_state.proofs.Modes.{marked_changed}
use Rattle.lab_state.proofs.traffic.Traffic.begin_suspend.Goals as goal

-- so such a bio is still marked as it is to be
pub mark_dependents-requires-clause-others : goal.mark_dependents-requires-clause-others
mark_dependents-requires-clause-others g c =
    marked_changed c.begin_suspend.new.self.slots c.args.device c.self.invariant.indexed.marked
    (option_map (with_mode Draining)) c.begin_suspend.ensures.slots
