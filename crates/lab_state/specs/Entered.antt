-- Which bios are known to enter which device, without their records (this project's own).
use Rattle.std.specs.Prelude.{◌≡◌, ◌≢◌, ℕ, ◌-◌, ◌<◌, List, Option, Some, None, get_or}
use Rattle.lab_sector.specs.declared.device.DevNo.{DevNo}
use Rattle.lab_sector.specs.declared.device.DevNo.TheVariants.{Ram, Dm}
use Rattle.lab_model.specs.Bios.{Bio, Stage, Entering, Held, InFlight}
use Rattle.lab_model.specs.Lists.{numbered}
use Rattle.std.specs.Option.{option_flatten}

-- the mapped device that a bio enters at a stage
abbrev pub entered_at : DevNo → Stage → Option ℕ
entered_at (Ram disk) stage = None
entered_at (Dm device) Entering = Some device
entered_at (Dm device) (Held due holder) = None
entered_at (Dm device) (InFlight failed answered) = None

-- that device of a bio, if it lives
abbrev pub living_entered : Option Bio → Option ℕ
living_entered None = None
living_entered (Some bio) = entered_at bio.device bio.stage

-- what is known of the bio of a number: the device that it enters, counted from 1; 0 tells nothing
abbrev pub known_of : List ℕ → ℕ → ℕ
known_of entered number = get_or entered number 0

-- what is known of a bio is so
abbrev pub IsKnown : Option Bio → ℕ → Type 0
IsKnown bio known = 0 < known → living_entered bio ≡ Some (known - 1)

-- what is known of the bio of a number is so
abbrev pub IsKnownAt : List (Option Bio) → List ℕ → ℕ → Type 0
IsKnownAt bios entered number =
    IsKnown (option_flatten (numbered bios number)) (known_of entered number)

-- what is known of each bio is so
abbrev pub AreKnown : List (Option Bio) → List ℕ → Type 0
AreKnown bios entered = (number : ℕ) → IsKnownAt bios entered number

-- of the bios of all other numbers the same is known
abbrev pub KeepsKnown : List ℕ → List ℕ → ℕ → Type 0
KeepsKnown old new number =
    (other : ℕ) → other ≢ number → known_of new other ≡ known_of old other
