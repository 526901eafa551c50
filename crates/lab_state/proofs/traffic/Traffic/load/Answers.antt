-- Another table in a slot leaves what may go on.
use Rattle.lab_model.proofs.Common.{rules, Some, with_inactive}
use Rattle.lab_state.proofs.Modes.{kept-slots}
use Rattle.lab_state.proofs.traffic.Traffic.load.Goals as goal

-- the device's mode stays
pub invariant_of-self : goal.invariant_of-self
invariant_of-self g c = kept-slots c.load.new.self.slots c.load.new.self.flights c.args.device
    (with_inactive (Some c.args.table))
    (search rules)
    c.load.ensures.slots c.load.ensures.flights c.self.invariant
