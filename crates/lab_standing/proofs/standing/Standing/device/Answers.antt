use Rattle.lab_model.proofs.Common.{rules}
use Rattle.lab_standing.specs.Stands.{stood}
use Rattle.lab_standing.proofs.Images.{walk-devices_of}
use Rattle.lab_standing.proofs.standing.Standing.device.Goals as goal

-- no device stands
pub returns-in_err-slot : goal.returns-in_err-slot
unfolding stood
returns-in_err-slot g c = search (rules, walk-devices_of)

-- the device's slots have these versions
pub returns : goal.returns
unfolding stood
returns g c = search (rules, walk-devices_of)
