use Rattle.lab_model.proofs.Common.{swapped}
use Rattle.lab_device.proofs.Slots.{change-there}
use Rattle.lab_device.proofs.devices.Devices.swap_and_run.Goals as goal

-- the device that is there swaps its tables
pub returns-clause-slots : goal.returns-clause-slots
returns-clause-slots g c = change-there swapped c.args.self.now.slots c.args.device _ _
    c.slot_mut.ensures.slot c.swap.ensures
