-- The bios by the device whose mode decides whether they go on (this project's own).
use Rattle.std.specs.Prelude.{◌≡◌, ℕ, ◌<◌, ◌==◌, ◌||◌, Bool, true, false, not, nat_le, List, [], Option, Some, None, get_or, length, if◌then◌else◌}
use Rattle.std.specs.List.{list_any}
use Rattle.lab_sector.specs.declared.device.DevNo.{DevNo}
use Rattle.lab_sector.specs.declared.device.DevNo.TheVariants.{Ram, Dm}
use Rattle.lab_model.specs.Bios.{Bio, Stage, Entering, Held, InFlight}
use Rattle.lab_model.specs.Lists.{numbered}
use Rattle.lab_state.specs.Entered.{IsKnownAt}
use Rattle.std.specs.Option.{option_flatten}

-- the numbers of bios in each device's row
abbrev pub Rows : Type 0
Rows = List (List ℕ)

-- whether a number is in a row
abbrev pub has_number : List ℕ → ℕ → Bool
has_number row number = list_any (λ n. n == number) row

-- the device whose mode decides whether a bio goes on: the mapped one that it enters, or its holder
abbrev pub depends_on : DevNo → Stage → Option ℕ
depends_on (Ram disk) Entering = None
depends_on (Dm device) Entering = Some device
depends_on (Ram disk) (Held due holder) = Some holder
depends_on (Dm device) (Held due holder) = Some holder
depends_on (Ram disk) (InFlight failed answered) = None
depends_on (Dm device) (InFlight failed answered) = None

-- that device of a bio, if it lives
abbrev pub living_device : Option Bio → Option ℕ
living_device None = None
living_device (Some bio) = depends_on bio.device bio.stage

-- that device of the bio of a number
abbrev pub device_of : List (Option Bio) → ℕ → Option ℕ
device_of bios number = living_device (option_flatten (numbered bios number))

-- whether that is this one
abbrev pub is_device : Option ℕ → ℕ → Bool
is_device None device = false
is_device (Some other) device = other == device

-- whether an event may come to a bio that depends on a device, by whether this runs: one that enters
-- it is cut if it does, one that is held by it goes on when it is due or if it doesn't
abbrev pub goes_by : ℕ → Bool → Stage → Bool
goes_by clock runs Entering = runs
goes_by clock runs (Held due holder) = nat_le due clock || not runs
goes_by clock runs (InFlight failed answered) = false

-- whether an event may come to a bio, where it lives and depends on this device
abbrev pub told_by : ℕ → ℕ → Bool → Option Bio → Option Bool
told_by clock device runs None = None
told_by clock device runs (Some bio) =
    if is_device (depends_on bio.device bio.stage) device then Some (goes_by clock runs bio.stage)
    else None

-- of the bios that depend on a device those in one row are in another, too
abbrev pub KeepsAll : List (Option Bio) → ℕ → List ℕ → List ℕ → Type 0
KeepsAll bios device old new = (number : ℕ) → device_of bios number ≡ Some device
    → has_number old number ≡ true → has_number new number ≡ true

-- the rows, and beside them what is known of each bio: by number the device that it enters, counted
-- from 1, or 0
pub record DependentRows : Type 0 where
  pub rows : Rows
  pub entered : List ℕ

-- no device has a row, and of no bio anything is known
abbrev pub no_rows : DependentRows
no_rows = record { rows = []; entered = [] }

-- the bio of a number is in the row of the device that it depends on, if that has one
abbrev pub IsInRow : List (Option Bio) → Rows → ℕ → Type 0
IsInRow bios rows number = (device : ℕ) → device_of bios number ≡ Some device
    → device < length rows → has_number (get_or rows device []) number ≡ true

-- so it is, and what is known of it without its record is so
pub record IsListedAt (bios : List (Option Bio)) (kept : DependentRows) (number : ℕ) : Type 0 where
  pub row : IsInRow bios kept.rows number
  pub known : IsKnownAt bios kept.entered number

-- each bio is
abbrev pub IsListed : List (Option Bio) → DependentRows → Type 0
IsListed bios kept = (number : ℕ) → IsListedAt bios kept number

-- each that is listed in some rows is listed in others
abbrev pub KeepsListed : List (Option Bio) → DependentRows → DependentRows → Type 0
KeepsListed bios old new = (number : ℕ) → IsListedAt bios old number → IsListedAt bios new number
