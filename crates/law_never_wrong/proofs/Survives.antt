-- What an event comes to for all bios: each that lives after it lived before and stands as before,
-- or is new at its stage and stands; and that there is a next state with a property.
use Rattle.lab_model.proofs.Common.{arith, ◌≡◌, ℕ, Bool, true, false, List, Option, Some, length}
use Rattle.lab_model.proofs.Common.{drop, ◌⊎◌, inl, inr, refl, ◌∙◌, ◌≢◌, rules}
use Rattle.lab_model.proofs.Common.{if◌then◌else◌, option_map, DevNo, Meaning, Bio, Stage, InFlight}
use Rattle.lab_model.proofs.Common.{flies_at, has_flight, change_numbered, numbered, LogPlan}
use Rattle.lab_model.proofs.Common.{Scenario, LogState, Slot, State, bio_of, Table, FilesFine}
use Rattle.lab_model.proofs.Common.{devices_image, change_numbered-cases, Devices, Shape}
use Rattle.lab_model.specs.declared.phase.Phase.{Phase}
use Rattle.lab_model.proofs.Common.{slot_at, Entering, Held, After, Next}
use Rattle.lab_model.specs.declared.micro.Mode.TheVariants.{Suspended}
use Rattle.law_never_wrong.specs.Fits.{Fits, FitsBio, FitsBios, FitsDisks, FitsFiles, FitsPhase}
use Rattle.law_never_wrong.specs.Fits.{IsQuiet}
use Rattle.law_never_wrong.proofs.Carry.{Flying, Leaves, ParentsFly, carry-bio, still-flies}
use Rattle.law_never_wrong.proofs.Carry.{stays-kept, StageGoes, StillFlies, goes-flies, Stays}
use Rattle.law_never_wrong.proofs.FitsKept.{device-of-image, image-of-device}
use Rattle.law_never_wrong.proofs.NumberedEntries.{entry_at, inside-cases, inside-there}
use Rattle.law_never_wrong.proofs.NumberedEntries.{entry-fails, none-passes}
use Rattle.law_slots.proofs.ByLine.{Then}
use Rattle.law_never_wrong.specs.NeverWrong.{Goes}

-- a living bio was there before, at a stage from which it may come to its stage now
pub record Came (bios : List (Option Bio)) (number : ℕ) (bio : Bio) : Type 0 where
  pub old : Bio
  pub stage : Stage
  pub stood : entry_at bios number ≡ Some old
  pub is : bio ≡ record old { stage = stage }
  pub goes : StageGoes old.stage stage

-- a bio that was there as it is now
pub came-same : (bios : List (Option Bio)) (number : ℕ) (bio : Bio)
    → entry_at bios number ≡ Some bio → Came bios number bio
came-same bios number bio stood =
    record { old = bio; stage = bio.stage; stood = stood; is = refl; goes = Stays }

-- a bio that is held or enters isn't in flight
pub child-rests : (device : ℕ) (below : DevNo) (held : Bool) (due holder : ℕ)
    → flies_at device below (if held then Held due holder else Entering) ≡ false
child-rests device below held due holder = grind arith

-- no bio is in flight in a state at what is suspended of some devices
abbrev pub QuietAt : {S : Type 0} → State S → Devices S → Type 0
QuietAt {S} s devices = (device : ℕ) (slot : Slot (Table (Shape S)))
    → slot_at devices device ≡ Some slot → slot.mode ≡ Suspended → has_flight s device ≡ false

-- nor at what is suspended of the state's own
pub quiet-seen : {S : Type 0} (m : Meaning S) (s : State S) → IsQuiet s
    → QuietAt s (devices_image m s.devices)
quiet-seen m s quiet device slot there mode =
    search (rules, device-of-image m s device slot there, quiet device)

-- a bio that stands, and doesn't fly at a suspended device
pub record Stands {S : Type 0} (m : Meaning S) (c : Scenario S) (s : State S) (number : ℕ)
    (bio : Bio) : Type 0 where
  pub fits : FitsBio m c s number bio
  pub rests : (device : ℕ) (slot : Slot (Table (Shape S)))
      → slot_at (devices_image m s.devices) device ≡ Some slot → slot.mode ≡ Suspended
      → flies_at device bio.device bio.stage ≡ false

-- each bio that lives after an event lived before, or is new and stands
abbrev pub BiosCome : {S : Type 0} → Meaning S → Scenario S → State S → State S → Type 0
BiosCome m c s next = (number : ℕ) (bio : Bio) → bio_of next number ≡ Some bio
    → Came s.bios number bio ⊎ Stands m c next number bio

-- a bio that isn't in flight at a device isn't after it
flies-stays : (number : ℕ) (device : DevNo) {old stage : Stage} → StageGoes old stage
    → flies_at number device old ≡ false → flies_at number device stage ≡ false
flies-stays number device holds still = search rules

-- where a bio of a number comes to another stage, among bios
module _ {S : Type 0} (s next : State S) (bios : List (Option Bio)) (at : ℕ) (f : Bio → Bio)
    (is : next.bios ≡ change_numbered bios at (option_map f))
    (goes : (bio : Bio) → entry_at bios at ≡ Some bio
    → (stage : Stage) × (f bio ≡ record bio { stage = stage }) × StageGoes bio.stage stage) where
  -- each bio that lives then lived before, where each of those did
  pub turned-came : ((n : ℕ) (b : Bio) → entry_at bios n ≡ Some b → bio_of s n ≡ Some b)
      → (number : ℕ) (bio : Bio) → bio_of next number ≡ Some bio → Came s.bios number bio
  turned-came stood number bio lives = search (rules, inside-cases f bios at number bio, came-same)

  -- and one of those that was in flight flies on
  pub turned-flies : (number : ℕ) (above : Bio) → Flying s number above
      → entry_at bios number ≡ Some above → StillFlies next number above
  turned-flies number above flying there = elim (inside-there f bios at number above there) [
    | inl same ↦
        let to = goes above (rw same.0 at there) in
        let flown = goes-flies to.2 flying.failed flying.answered flying.flies in (
          flown.0,
          flown.1,
          search rules,
        )
    | inr kept ↦ still-flies s next number above flying (rw is kept)
  ]

module _ {S : Type 0} (m : Meaning S) (c : Scenario S) (s next : State S)
    (bios : BiosCome m c s next) where
  -- all bios stand
  pub bios-stand : Leaves m s next → FitsBios m c s → FitsBios m c next
  bios-stand leaves fits number bio lives = elim (bios number bio lives) [
    | inl came ↦ search (rules, carry-bio, came.is, came.old, came.stood, came.goes)
    | inr new ↦ new.fits
  ]

  -- none flies at a suspended device
  pub none-flies : QuietAt s (devices_image m next.devices) → IsQuiet next
  none-flies quiet device slot there mode =
      let seen = image-of-device m next device slot there in
      none-passes (λ bio. flies_at device bio.device bio.stage) next.bios
      (λ number bio lives. elim (bios number bio lives) [
        | inl came ↦ search (rules, flies-stays, entry-fails)
        | inr new ↦ new.rests device _ seen mode
      ])

-- where bios in flight stay as they were, parents fly on
pub parents-fly : {S : Type 0} (s next : State S)
    → ((number : ℕ) (above : Bio) → Flying s number above → bio_of next number ≡ Some above)
    → ParentsFly s next
parents-fly s next stay number bio parent piece lives is above flying = search (rules, still-flies)

-- whether a bio is in flight
abbrev pub in_flight : Stage → Bool
in_flight (InFlight failed answered) = true
in_flight stage = false

-- a bio in flight isn't the one of a number whose bio isn't
pub flies-apart : {S : Type 0} (s : State S) (at : ℕ) (bio : Bio) → bio_of s at ≡ Some bio
    → in_flight bio.stage ≡ false → (number : ℕ) (above : Bio) → Flying s number above → number ≢ at
flies-apart s at bio lives rests number above flying same = grind arith

-- where a bio lives, the logs have started and not all ended: any state is in its phase then
pub living-in-phase : {S : Type 0} (c : Scenario S) (s next : State S) (phase : Phase) (at : ℕ)
    (bio : Bio) → FitsPhase c s phase → bio_of s at ≡ Some bio → FitsPhase c next phase
living-in-phase c s next phase at bio none lives = search rules

-- the logs have their files where one log has changed and has them
pub changed-files : {S : Type 0} (c : Scenario S) (s : State S) (number : ℕ)
    (f : LogState → LogState) → FitsFiles c s
    → ((plan : LogPlan) (log : LogState) → numbered c.logs number ≡ Some plan
    → numbered s.logs number ≡ Some log
    → FilesFine (f log).files (drop (f log).taken plan.lines))
    → FitsFiles c (record s { logs = change_numbered s.logs number f })
changed-files c s number f fits here other plan log planned stands =
    elim (change_numbered-cases s.logs f number other log stands) [
      | inl one ↦ search rules
      | inr same ↦ fits other plan log planned same.1
    ]

-- an event that leaves the devices' images
module _ {S : Type 0} (m : Meaning S) (c : Scenario S) (s : State S) (fits : Fits m c s)
    (next : State S) (same : devices_image m next.devices ≡ devices_image m s.devices)
    (sizes : FitsDisks c next) (parents : ParentsFly s next) where
  -- what it leaves
  pub went-leaves : Leaves m s next
  went-leaves = search (rules, sizes, fits.disks, stays-kept, same, parents)

  -- the state after it fits, where it leaves the script, too
  pub went-fits : next.done ≡ s.done → next.started ≡ s.started → FitsPhase c next fits.phase
      → length next.logs ≡ length s.logs → FitsFiles c next → BiosCome m c s next → Fits m c next
  went-fits done started in_phase long files bios = record {
    phase = fits.phase;
    is_started = started ∙ fits.is_started;
    script = rw (same, done) fits.script;
    in_phase = in_phase;
    logs = long ∙ fits.logs;
    files = files;
    disks = sizes;
    bios = bios-stand m c s next bios went-leaves fits.bios;
    quiet = none-flies m c s next bios (rw same (quiet-seen m s fits.quiet));
  }

-- where there is a next state, what holds of it if there is one does
pub goes-then : {S : Type 0} (P : State S → Type 0) (after : After S)
    → Goes after (λ next. Unit {0}) → Then after P → Goes after P
goes-then P after goes has = search rules

-- the next state is known where it goes on
pub goes-next : {S : Type 0} (P : State S → Type 0) (after : After S) → Goes after P
    → (next : State S) × (after ≡ Next next) × P next
goes-next P after goes = search rules
