-- How words become a target: first what they say, then their devices (dmsetup(8), the table
-- format).
use Rattle.std.specs.Prelude.{◌≡◌, ◌≢◌, ℕ, List, [], ◌∷◌, ◌++◌, Option, Some, None, Result, Ok, Err, codes, decimal, map, option_map}
use Rattle.std.specs.Option.{ok_or, option_zip}
use Rattle.std.specs.Result.{result_map_both}
use Rattle.std.specs.Global.{Vec}
use Rattle.lab_sector.specs.declared.device.DevNo.{DevNo}
use Rattle.lab_sector.specs.declared.device.DevNo.TheVariants.{Ram, Dm}
use Rattle.lab_target.specs.declared.fault.TargetFault.{TargetFault}
use Rattle.lab_target.specs.declared.fault.TargetFault.TheVariants.{Device, NoMemory}
use Rattle.lab_target.specs.declared.unbound.Unbound.{Unbound}
use Rattle.lab_target.specs.Meaning.{Draft}

-- the devices of words, if each word names one
abbrev pub devices_of : (List ℕ → Option DevNo) → List (List ℕ) → Option (List DevNo)
devices_of found [] = Some []
devices_of found (word ∷ words) =
    option_map (λ both. both.0 ∷ both.1) (option_zip (found word) (devices_of found words))

-- a target under some names: its words' own faults come before an unknown device
abbrev pub resolved : {S : Type 0} → (List ℕ → Option DevNo) → Result (Draft S) TargetFault
    → Result S TargetFault
resolved found (Err fault) = Err fault
resolved found (Ok draft) = result_map_both draft.made (λ fault. fault)
    (ok_or (devices_of found draft.devices) Device)

-- what the words of a target say that isn't bound yet, where binding puts devices in their places
abbrev pub draft_of : {S : Type 0} → (S → List DevNo → S) → Unbound S → Draft S
draft_of bound unbound = record {
  devices = map (λ word. word.now) unbound.devices.items;
  made = bound unbound.target;
}

-- what is read before its devices are known is what the words say, unless memory runs out
abbrev pub ReadsUnbound : {S : Type 0} → (S → List DevNo → S) → Result (Draft S) TargetFault
    → Result (Unbound S) TargetFault → Type 0
ReadsUnbound bound wanted (Ok unbound) = wanted ≡ Ok (draft_of bound unbound)
ReadsUnbound bound wanted (Err fault) = fault ≢ NoMemory → wanted ≡ Err fault

-- the devices of words are found, or one is unknown, unless memory runs out
abbrev pub AreFound : Option (List DevNo) → Result (Vec DevNo) TargetFault → Type 0
AreFound wanted (Ok devices) = wanted ≡ Some devices.items
AreFound wanted (Err fault) = fault ≢ NoMemory → (fault ≡ Device) × (wanted ≡ None)

-- a reading's answer is the wanted one, unless memory runs out
abbrev pub Reads : {S : Type 0} → Result S TargetFault → Result S TargetFault → Type 0
Reads wanted (Ok target) = wanted ≡ Ok target
Reads wanted (Err fault) = fault ≢ NoMemory → wanted ≡ Err fault

-- a device as a printed table names it: 1:N or 253:N
abbrev pub device_text : DevNo → List ℕ
device_text (Ram n) = codes "1:" ++ decimal n
device_text (Dm n) = codes "253:" ++ decimal n

-- the names give each of these devices' printed words its device
abbrev pub FindsPrinted : (List ℕ → Option DevNo) → List DevNo → Type 0
FindsPrinted found [] = Unit {0}
FindsPrinted found (device ∷ devices) =
    (found (device_text device) ≡ Some device) × FindsPrinted found devices
