use Rattle.lab_model.proofs.Common.{Some, with_inactive}
use Rattle.lab_device.proofs.Slots.{change-there}
use Rattle.lab_device.proofs.devices.Devices.load.Goals as goal

-- the device that is there gets the table
pub returns-clause-slots : goal.returns-clause-slots
returns-clause-slots g c =
    change-there (with_inactive (Some c.args.table)) c.args.self.now.slots c.args.device _ _
    c.slot_mut.ensures.slot c.set_inactive.ensures
