-- What each event but the script's does, got once from its guard and its effect: a disk serves a
-- bio, one in flight is finished, a table judges one, or all bios are left.
use Rattle.lab_model.proofs.Common.{rules, Bool, eq-eqb, false, if◌then◌else◌, refl, Some, true, ℕ}
use Rattle.lab_model.proofs.Common.{true≢false, ◌≡◌, ◌≢◌, answered, Bio, bio_may-gives, bio_of}
use Rattle.lab_model.proofs.Common.{◌≤◌, disk_of, leb-true, length, served}
use Rattle.lab_model.proofs.Common.{devices_image, effect, Entering, Failed, Gave}
use Rattle.lab_model.specs.declared.parent.Parent.TheVariants.{FromBio}
use Rattle.lab_model.proofs.Common.{InFlight, is_enabled, Lawful, Meaning, Next, not-true, Ram}
use Rattle.lab_model.proofs.Common.{Scenario, Sectors, State}
use Rattle.lab_model.specs.Tables.{end_of}
use Rattle.law_slots.proofs.WalkRuns.{next-gives, each-keeps-place}
use Rattle.law_never_wrong.proofs.NumberedEntries.{entry-fails}
use Rattle.law_sectors_touched.proofs.Words.{Clock, Control, Event, Finish, Fits, is_control, Line}
use Rattle.law_sectors_touched.proofs.Words.{Map, moved, Piece, Release, Serve}
use Rattle.law_sectors_touched.proofs.Judged.{Judged, map-gives, sent}
use Rattle.law_sectors_touched.proofs.KeptBios.{Leaves}
use Rattle.law_sectors_touched.proofs.Leaving.{answered-leaves, clock-leaves, line-leaves}
use Rattle.law_sectors_touched.proofs.Leaving.{release-leaves}

-- a disk serves a bio
pub record Serving {S : Type 0} (s : State S) (at : ℕ) (next : State S) : Type 0 where
  -- the bio lives, and enters the disk
  pub bio : Bio
  pub lives : bio_of s at ≡ Some bio
  pub disk : ℕ
  pub on : bio.device ≡ Ram disk
  pub enters : bio.stage ≡ Entering
  -- its sectors are the disk's
  pub sectors : Sectors
  pub stands : disk_of s disk ≡ Some sectors
  pub inside : end_of bio.kind bio.span ≤ length sectors
  -- what that leads to
  pub next_is : next ≡ served s at bio disk sectors bio.kind

-- a bio in flight is finished
pub record Finishing {S : Type 0} (s : State S) (at : ℕ) (next : State S) : Type 0 where
  -- the bio lives, in flight
  pub bio : Bio
  pub lives : bio_of s at ≡ Some bio
  pub failed : Bool
  pub sectors : Sectors
  pub is : bio.stage ≡ InFlight failed sectors
  -- no living bio was made for a piece of it
  pub childless : (n : ℕ) (child : Bio) (piece : Piece) → bio_of s n ≡ Some child
      → child.parent ≢ FromBio at piece
  -- what that leads to
  pub next_is : next ≡ answered s at bio (if failed then Failed else Gave sectors)

module _ {S : Type 0} (m : Meaning S) (c : Scenario S) (s next : State S) (at : ℕ) where
  -- what may be served is
  pub serving-of : is_enabled c s (Serve at) ≡ true → effect m c s (Serve at) ≡ Next next
      → Serving s at next
  serving-of may leads = search (rules, leb-true)

  -- what may be finished is: no living bio was made for a piece of it
  pub finishing-of : is_enabled c s (Finish at) ≡ true → effect m c s (Finish at) ≡ Next next
      → Finishing s at next
  finishing-of may leads = search (rules, bio_may-gives, true≢false, eq-eqb, entry-fails, not-true)

-- the number of the bio that an event answers
abbrev pub gone_of : Event → ℕ
gone_of (Serve at) = at
gone_of (Finish at) = at
gone_of _ = 0

module _ {S : Type 0} {m : Meaning S} (lawful : Lawful m) {c : Scenario S} {s : State S}
    (fits : Fits m c s) (next : State S) where
  -- no event but the script's changes the devices' images
  pub event-image : (event : Event) → is_control event ≡ false → is_enabled c s event ≡ true
      → effect m c s event ≡ Next next → devices_image m next.devices ≡ devices_image m s.devices
  event-image event quiet may leads =
      (next-gives m c s _ (each-keeps-place m lawful c s) event next may leads quiet).0

  -- one that may come leaves all bios but the one that it answers, or a table judges a bio
  pub event-cases : (P : State S → Type 0) (event : Event) → is_control event ≡ false → is_enabled c
      s event ≡ true → effect m c s event ≡ Next next → (Leaves s (gone_of event) next → P next)
      → (gone_of event ≡ 0 → (at : ℕ) (j : Judged m s at) → P (sent j)) → P next
  event-cases P (Line log) quiet may leads leaves judges =
      leaves (line-leaves m c s next log may leads).leaves
  event-cases P (Map at) quiet may leads leaves judges =
      map-gives lawful fits at P (judges refl at) may next leads
  event-cases P (Serve at) quiet may leads leaves judges =
      leaves (answered-leaves (moved m c s (Serve at) next may leads))
  event-cases P (Release at) quiet may leads leaves judges =
      leaves (release-leaves m c s next at may leads).leaves
  event-cases P (Finish at) quiet may leads leaves judges =
      leaves (answered-leaves (moved m c s (Finish at) next may leads))
  event-cases P Control quiet may leads leaves judges = cc
  event-cases P Clock quiet may leads leaves judges =
      leaves (clock-leaves m c s next may leads).leaves
