use Rattle.lab_model.proofs.Common.{◌+◌, sym, change-set}
use Rattle.lab_device.proofs.devices.Devices.enter.Goals as goal

-- the count at the device's number changes by one
pub returns-clause-flights : goal.returns-clause-flights
returns-clause-flights g c = rw (← c.self.view_is)
    (sym (change-set c.self.inside.flights.items c.args.device (λ count. count + 1) _
    c.index_mut.ensures.value))
