use Rattle.lab_model.proofs.Common.{with_mode}
use Rattle.lab_model.specs.declared.micro.Mode.TheVariants.{Suspended}
use Rattle.lab_device.proofs.Slots.{change-there}
use Rattle.lab_device.proofs.devices.Devices.end_suspend.Goals as goal

-- the device that is there gets the mode
pub returns-clause-slots : goal.returns-clause-slots
returns-clause-slots g c =
    change-there (with_mode Suspended) c.args.self.now.slots c.args.device _ _
    c.slot_mut.ensures.slot c.set_mode.ensures
