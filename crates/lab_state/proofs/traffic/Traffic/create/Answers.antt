-- The new device decides nothing for a bio that doesn't depend on it, and has a count of none, as
-- before it was made.
use Rattle.lab_model.proofs.Common.{Some, rules, created}
use Rattle.lab_state.proofs.Flown.{all-next}
use Rattle.lab_state.proofs.Modes.{marked_pushed}
use Rattle.lab_state.proofs.traffic.Traffic.create.Goals as goal

-- such a bio is still marked as it is to be
pub mark_dependents-requires-clause-others : goal.mark_dependents-requires-clause-others
mark_dependents-requires-clause-others g c =
    marked_pushed c.create.new.self.slots c.in-Ok.device c.self.invariant.indexed.marked
    (Some (created c.args.live)) (search rules) (search rules)

-- the bios are marked by the new devices, and the counts are right where they were
pub invariant_of-self-2 : goal.invariant_of-self-2
invariant_of-self-2 g c = search (rules, all-next)
