-- What words of a type say, and that printed devices are found again. Names: of_type or devices_of, and the fact.
use Rattle.std.proofs.Common.{rules, ◌≡◌, ◌≢◌, ℕ, List, [], ◌∷◌}
use Rattle.std.specs.Prelude.{Option, Some, Result, Ok, Err, map}
use Rattle.lab_sector.specs.declared.device.DevNo.{DevNo}
use Rattle.lab_target.specs.declared.fault.TargetFault.{TargetFault}
use Rattle.lab_target.specs.declared.fault.TargetFault.TheVariants.{Args, Unknown}
use Rattle.lab_target.specs.Meaning.{Draft}
use Rattle.lab_target.specs.Reading.{FindsPrinted, device_text, devices_of, resolved}
use Rattle.lab_target.specs.Types.{after_type, no_arguments, of_type}

module _ {S : Type 0} (name : List ℕ) (arguments : List (List ℕ) → Result (Draft S) TargetFault) where
  -- where the words of a line say something, so do those after the type
  pub of_type-ok : (words : List (List ℕ)) (draft : Draft S) → of_type name arguments words ≡ Ok draft
      → (rest : List (List ℕ)) × (arguments rest ≡ Ok draft)
  of_type-ok words draft said = search rules

  -- a fault that no words after the type have is no fault of a line
  pub of_type-never : (fault : TargetFault) → Unknown ≢ fault
      → ((words : List (List ℕ)) → arguments words ≢ Err fault)
      → (words : List (List ℕ)) → of_type name arguments words ≢ Err fault
  of_type-never fault other never words said = search rules

module _ {S : Type 0} (name : List ℕ) (arguments : List (List ℕ) → Result (Draft S) TargetFault) where
  -- what words of the type say is what those after the type say
  pub of_type-same : (words rest : List (List ℕ)) → after_type name words ≡ Some rest
      → of_type name arguments words ≡ arguments rest
  of_type-same words rest is = search rules

-- printed devices are found where each one is
pub devices_of-printed : (found : List ℕ → Option DevNo) (devices : List DevNo) → FindsPrinted found devices
    → devices_of found (map device_text devices) ≡ Some devices
devices_of-printed found [] finds = search rules
devices_of-printed found (device ∷ devices) finds = search (rules, devices_of-printed found devices)

-- a draft with the printed devices is made with the devices
pub resolved-printed : {S : Type 0} (draft : Draft S) (found : List ℕ → Option DevNo) (devices : List DevNo)
    → draft.devices ≡ map device_text devices → FindsPrinted found devices
    → resolved found (Ok draft) ≡ Ok (draft.made devices)
resolved-printed draft found devices are finds = search (rules, devices_of-printed)

-- words of a type that takes none have no fault but their number
pub no_arguments-never : {S : Type 0} (target : S) (fault : TargetFault) → Args ≢ fault → (words : List (List ℕ))
    → no_arguments target words ≢ Err fault
no_arguments-never target fault args words said = search rules
