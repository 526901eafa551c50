-- A device that drained is suspended: it didn't run before either.
use Rattle.lab_model.proofs.Common.{rules, with_mode, HasMode}
use Rattle.lab_model.specs.declared.micro.Mode.TheVariants.{Draining, Suspended}
use Rattle.lab_state.proofs.Modes.{kept-slots}
use Rattle.lab_state.proofs.traffic.Traffic.end_suspend.Goals as goal

-- the same devices run
pub invariant_of-self : goal.invariant_of-self
invariant_of-self g c =
    let drains : HasMode c.self.inside.devices.slots c.args.device Draining =
    rw (← c.self.view_is) at c.requires in
    kept-slots c.end_suspend.new.self.slots c.end_suspend.new.self.flights c.args.device
    (with_mode Suspended) (search (rules, drains)) c.end_suspend.ensures.slots
    c.end_suspend.ensures.flights c.self.invariant
