use Rattle.lab_model.proofs.Common.{None, sym, change-set}
use Rattle.lab_device.proofs.devices.Devices.remove.Goals as goal

-- the entry at the device's number is empty
pub returns-clause-slots : goal.returns-clause-slots
returns-clause-slots g c = rw (← c.self.view_is)
    (sym (change-set c.self.inside.slots.items c.args.device (λ _. None) _
    c.index_mut.ensures.value))
