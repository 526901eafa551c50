-- Which bios may go on, and which are held until later: what is kept of them (this project's own).
use Rattle.std.specs.Prelude.{◌≡◌, ℕ, zero, suc, ◌≤◌, Bool, false, nat_lt, if◌then◌else◌, List, []}
use Rattle.std.specs.Prelude.{Option, Some, None, is_some, length}
use Rattle.std.specs.Ordering.{nat_cmp}
use Rattle.std.specs.FinMap as map
use Rattle.lab_index.specs.Numbers.{Marks, has}
use Rattle.lab_model.specs.Bios.{Bio, Stage, Entering, Held, InFlight}
use Rattle.lab_model.specs.Guard.{bio_may}
use Rattle.lab_model.specs.State.{Slot, State, bio_of}
use Rattle.lab_model.specs.Tables.{Table}
use Rattle.lab_state.specs.Places.{bio_event}

-- whether an event may come to the living bio of a number
abbrev pub goes : {S : Type 0} → State S → ℕ → Bool
goes s number =
    bio_may (bio_of s number) (λ bio. is_some (bio_event s number bio.device bio.stage))

-- whether the bio of a number is marked; the marks begin with that of number 1
abbrev pub is_marked : Marks → ℕ → Bool
is_marked marks zero = false
is_marked marks (suc place) = has marks place

-- until when a bio at a stage waits: the moment of one that is held and isn't due
abbrev pub waits_at : ℕ → Stage → Option ℕ
waits_at clock Entering = None
waits_at clock (Held due holder) = if nat_lt clock due then Some due else None
waits_at clock (InFlight failed answered) = None

-- until when the living bio of a number waits
abbrev pub waits_of : ℕ → Option Bio → Option ℕ
waits_of clock None = None
waits_of clock (Some bio) = waits_at clock bio.stage

-- a state with this clock, these bios and these devices, and nothing else
abbrev pub state_of : {S : Type 0} → ℕ → List (Option Bio) → List (Option (Slot (Table S)))
    → State S
state_of clock bios devices = record {
  clock = clock;
  bios = bios;
  devices = devices;
  disks = [];
  logs = [];
  started = false;
  done = 0;
  moment = 0;
  replies = [];
}

-- just the bios are marked to which an event may come, and the marks reach to the last bio
pub record IsMarked {S : Type 0} (s : State S) (marks : Marks) : Type 0 where
  pub ready : (number : ℕ) → is_marked marks number ≡ goes s number
  pub reach : length s.bios ≤ length marks

-- just the held bios that aren't due wait, each until its moment
abbrev pub Waits : {S : Type 0} → State S → map.FinMap nat_cmp ℕ → Type 0
Waits s held = (number : ℕ) → map.get held number ≡ waits_of s.clock (bio_of s number)

-- what is kept beside the bios
pub record IsIndexed {S : Type 0} (s : State S) (marks : Marks)
    (held : map.FinMap nat_cmp ℕ) : Type 0 where
  pub marked : IsMarked s marks
  pub waits : Waits s held
