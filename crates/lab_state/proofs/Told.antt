-- What is told of a bio that ended is that of the bio that lived.
use Rattle.lab_model.proofs.Common.{rules}
use Rattle.lab_model.proofs.Common.{◌≡◌, Option, Some, None, option_map, DevNo, Bio}
use Rattle.lab_model.proofs.Common.{Stage}
use Rattle.lab_model.specs.declared.parent.Parent.{Parent}
use Rattle.lab_bios.specs.Flights.{flight_of}

-- a bio of this device, of this parent and at this stage lived
pub record Lived (entry : Option Bio) (device : DevNo) (parent : Parent) (stage : Stage)
    : Type 0 where
  pub bio : Bio
  pub lives : entry ≡ Some bio
  pub parent_is : parent ≡ bio.parent
  pub stage_is : stage ≡ bio.stage
  pub flight : flight_of device stage ≡ flight_of bio.device bio.stage

-- where all three are told there was one
pub lived : (entry : Option Bio) {device : DevNo} {parent : Parent} {stage : Stage}
    → Some device ≡ option_map (λ (bio : Bio). bio.device) entry
    → Some parent ≡ option_map (λ (bio : Bio). bio.parent) entry
    → Some stage ≡ option_map (λ (bio : Bio). bio.stage) entry
    → Lived entry device parent stage
lived None for_device for_parent for_stage = absurd (cc)
lived (Some bio) {device} {parent} {stage} for_device for_parent for_stage = search rules
