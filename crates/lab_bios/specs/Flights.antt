-- How many bios are in flight at each device (this project's own).
use Rattle.std.specs.Prelude.{◌≡◌, ℕ, ◌+◌, ◌==◌, cond, List, Option, Some, None, get_or}
use Rattle.std.specs.List.{count_by}
use Rattle.lab_bios.specs.Living.{living_of}
use Rattle.lab_model.specs.Bios.{Bio, Stage, Entering, Held, InFlight}
use Rattle.lab_model.specs.Guard.{flies_at}
use Rattle.lab_sector.specs.declared.device.DevNo.{DevNo}
use Rattle.lab_sector.specs.declared.device.DevNo.TheVariants.{Ram, Dm}

-- the mapped device at which a bio is in flight, if it is
abbrev pub flight_of : DevNo → Stage → Option ℕ
flight_of (Ram disk) stage = None
flight_of (Dm device) Entering = None
flight_of (Dm device) (Held due holder) = None
flight_of (Dm device) (InFlight failed answered) = Some device

-- one where that is the device of this number
abbrev pub one_in : ℕ → Option ℕ → ℕ
one_in device None = 0
one_in device (Some other) = cond (device == other) 1 0

-- how many living bios are in flight at the device of a number
abbrev pub flights_at : ℕ → List (Option Bio) → ℕ
flights_at device bios =
    count_by (λ (bio : Bio). flies_at device bio.device bio.stage) (living_of bios)

-- of each device the count is the right one; none is in flight at one that has no count
abbrev pub AreAllCounted : List (Option Bio) → List ℕ → Type 0
AreAllCounted bios flights = (device : ℕ) → get_or flights device 0 ≡ flights_at device bios

-- to the more there is added what is in flight, and nothing else; its device has a count
pub record AddsFlight (less more : List ℕ) (flight : Option ℕ) : Type 0 where
  pub each : (device : ℕ)
      → get_or more device 0 ≡ get_or less device 0 + one_in device flight
