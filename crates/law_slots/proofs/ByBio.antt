-- What the events of bios do: a disk or the end of a flight answers a bio, and a mapped device
-- judges one.
use Rattle.lab_model.proofs.Common.{rules, ◌≡◌, ◌⊎◌, ℕ, Bool, true, List, [], ◌∷◌, Some, length}
use Rattle.lab_model.proofs.Common.{map, if◌then◌else◌, Ram, Dm, Kind, Read, Meaning, Failed, Gave}
use Rattle.lab_model.proofs.Common.{Told, answered, told_to, Bio, Entering, InFlight, nat_le, ◌+◌}
use Rattle.lab_model.specs.declared.parent.Parent.{Parent}
use Rattle.lab_model.proofs.Common.{serve, with_sectors, is_enabled, runs, all_judged}
use Rattle.lab_model.proofs.Common.{fits_table, judgements, map_bio, sent, pieces, Scenario}
use Rattle.lab_model.proofs.Common.{Sectors, part, Disk, Slot, State, bio_of, Table, slot_at}
use Rattle.lab_model.specs.declared.event.Event.TheVariants.{Map, Serve, Finish}
use Rattle.lab_model.specs.DiskEffect.{finish}
use Rattle.law_slots.proofs.ByLine.{Then}

-- what a disk with these sectors tells of a bio, by its kind
abbrev pub told_by : Bio → Sectors → Kind → Told
told_by bio sectors Read = Gave (part sectors bio.span)
told_by bio sectors _ = Gave []

-- a bio that enters a disk, which tells this; what it reads is there
pub record AtDisk (bio : Bio) (told : Told) : Type 0 where
  pub disk : ℕ
  pub on : bio.device ≡ Ram disk
  pub enters : bio.stage ≡ Entering
  pub sectors : Sectors
  pub tells : told ≡ told_by bio sectors bio.kind
  pub within : bio.kind ≡ Read → nat_le (bio.span.first + bio.span.len) (length sectors) ≡ true

-- a bio in flight, which tells this
pub record Flies (bio : Bio) (told : Told) : Type 0 where
  pub failed : Bool
  pub sectors : Sectors
  pub is : bio.stage ≡ InFlight failed sectors
  pub tells : told ≡ (if failed then Failed else Gave sectors)

-- the numbers of disks
abbrev pub disk_numbers : List Disk → List ℕ
disk_numbers disks = map (λ disk. disk.number) disks

-- a living bio that enters a disk or flies is answered, and a disk may have other sectors
pub record Answers {S : Type 0} (s : State S) (at : ℕ) (next : State S) : Type 0 where
  pub bio : Bio
  pub lives : bio_of s at ≡ Some bio
  pub told : Told
  pub ends : AtDisk bio told ⊎ Flies bio told
  pub disks : List Disk
  pub numbers : disk_numbers disks ≡ disk_numbers s.disks
  pub is : next ≡ answered (record s { disks = disks }) at bio told
  pub aside : next ≡ record s { bios = next.bios; disks = disks; logs = next.logs }

-- the state after a bio at a mapped device is judged by a table
abbrev pub judged_next : {S : Type 0} → Meaning S → State S → ℕ → Bio → ℕ → Table S → State S
judged_next m s at bio device table =
    let cut = pieces m table bio.kind bio.span in
    sent s device at bio (all_judged m bio.kind s.clock table cut)
    (judgements m bio.kind s.clock table cut)

-- a living bio that enters a mapped device is judged by its live table
pub record Judges {S : Type 0} (m : Meaning S) (s : State S) (at : ℕ)
    (next : State S) : Type 0 where
  pub bio : Bio
  pub lives : bio_of s at ≡ Some bio
  pub enters : bio.stage ≡ Entering
  pub device : ℕ
  pub on : bio.device ≡ Dm device
  pub slot : Slot (Table S)
  pub there : slot_at s.devices device ≡ Some slot
  pub table : Table S
  pub live : slot.live ≡ Some table
  pub is_running : runs slot.mode ≡ true
  pub fits : fits_table table bio.kind bio.span ≡ true
  pub is : next ≡ judged_next m s at bio device table

-- other sectors on one leave them
sectors-numbers : (number : ℕ) (sectors : Sectors) (disks : List Disk)
    → disk_numbers (map (with_sectors number sectors) disks) ≡ disk_numbers disks
sectors-numbers number sectors [] = search rules
sectors-numbers number sectors (disk ∷ disks) = search (rules, sectors-numbers number sectors disks)

-- telling a parent leaves all but the bios and the logs
pub told_to-aside : {S : Type 0} (s : State S) (bio : Bio) (told : Told) (parent : Parent)
    → let next = told_to s bio told parent in
    next ≡ record s { bios = next.bios; logs = next.logs }
told_to-aside s bio told parent = search rules

module _ {S : Type 0} (c : Scenario S) (s : State S) (at : ℕ) where
  -- a disk's event
  pub serve-does : is_enabled c s (Serve at) ≡ true → Then (serve s at) (Answers s at)
  serve-does = search (rules, sectors-numbers)

  -- the event of a bio in flight
  pub finish-does : is_enabled c s (Finish at) ≡ true → Then (finish s at) (Answers s at)
  finish-does = search rules

  -- the event of a bio at a mapped device
  pub map-does : (m : Meaning S) → is_enabled c s (Map at) ≡ true
      → Then (map_bio m s at) (Judges m s at)
  map-does m = search rules
