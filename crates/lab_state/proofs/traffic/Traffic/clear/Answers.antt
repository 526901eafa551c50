-- Without a table in a slot the same may go on.
use Rattle.lab_model.proofs.Common.{rules, None, with_inactive}
use Rattle.lab_state.proofs.Modes.{kept-slots}
use Rattle.lab_state.proofs.traffic.Traffic.clear.Goals as goal

-- the device's mode stays
pub invariant_of-self : goal.invariant_of-self
invariant_of-self g c = kept-slots c.clear.new.self.slots c.clear.new.self.flights c.args.device
    (with_inactive None) (search rules)
    c.clear.ensures.slots c.clear.ensures.flights c.self.invariant
