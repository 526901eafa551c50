-- How the bios that stood before an event stand after it: each as it stood, where it stays in its
-- stage or enters its device anew, and the event leaves what it stands on.
-- Names: carry-WHAT brings a fact of the one state to the other.
use Rattle.lab_model.proofs.Common.{◌≡◌, ℕ, ◌≤◌, Bool, true, Some, length, refl, ap, ◌∙◌}
use Rattle.lab_model.proofs.Common.{arith, Option, le_refl, rules, option_map, option_and_then}
use Rattle.lab_model.proofs.Common.{nat_tests, DevNo, Ram, Dm, Kind, Span, Meaning, Bio}
use Rattle.lab_model.proofs.Common.{Stage, Entering, Held, InFlight}
use Rattle.lab_model.specs.declared.parent.Parent.{Parent}
use Rattle.lab_model.specs.declared.parent.Parent.TheVariants.{FromLog, FromBio}
use Rattle.lab_model.proofs.Common.{flies_at, fits_table, Scenario, Sectors, Slot, State, bio_of}
use Rattle.lab_model.proofs.Common.{disk_of, Table, image, size_of, size_of-image, slot_at}
use Rattle.lab_model.proofs.Common.{devices_image}
use Rattle.lab_model.specs.declared.piece.Piece.{Piece}
use Rattle.std.proofs.lemmas.Bool.{eq-eqb}
use Rattle.law_never_wrong.specs.Fits.{FitsBio, FitsDevice, FitsParent, FitsStage, FromPiece}
use Rattle.law_never_wrong.proofs.FitsKept.{placed-same, line-kept, option_to-alike, table-seen}
use Rattle.law_never_wrong.proofs.FitsKept.{table-there}

-- a device that had a live table has one that is as long at least, and the same where a bio flies
abbrev pub TableKept : {L : Type 0} → Option (Slot (Table L)) → Option (Slot (Table L)) → Bool
    → Type 0
TableKept {L} before after flies =
    (table : Table L) → option_and_then (λ slot. slot.live) before ≡ Some table
    → (later : Table L) × (option_and_then (λ slot. slot.live) after ≡ Some later)
    × (size_of table ≤ size_of later) × (flies ≡ true → later ≡ table)

-- a device that stays keeps its table
pub stays-kept : {L : Type 0} (before after : Option (Slot (Table L))) (flies : Bool)
    → after ≡ before → TableKept before after flies
stays-kept before after flies same table live = (table, rw same live, le_refl _, λ flown. refl)

-- a living bio that is in flight
pub record Flying {S : Type 0} (s : State S) (number : ℕ) (bio : Bio) : Type 0 where
  pub failed : Bool
  pub answered : Sectors
  pub there : bio_of s number ≡ Some bio
  pub flies : bio.stage ≡ InFlight failed answered

-- a bio in flight is still there, and in flight
abbrev pub StillFlies : {S : Type 0} → State S → ℕ → Bio → Type 0
StillFlies next number above = (failed : Bool) × (answered : Sectors)
    × (bio_of next number ≡ Some (record above { stage = InFlight failed answered }))

-- the parents of living bios that are in flight fly on
abbrev pub ParentsFly : {S : Type 0} → State S → State S → Type 0
ParentsFly s next = (number : ℕ) (bio : Bio) (parent : ℕ) (piece : Piece)
    → bio_of s number ≡ Some bio → bio.parent ≡ FromBio parent piece
    → (above : Bio) → Flying s parent above → StillFlies next parent above

-- what an event leaves to the bios that stood before it: to each disk its size, the live tables
-- where bios stand, and to a piece its parent in flight
pub record Leaves {S : Type 0} (m : Meaning S) (s next : State S) : Type 0 where
  pub disks : (number : ℕ)
      → option_map length (disk_of next number) ≡ option_map length (disk_of s number)
  pub tables : (number : ℕ) (bio : Bio) (device : ℕ) → bio_of s number ≡ Some bio
      → bio.device ≡ Dm device → TableKept (slot_at (devices_image m s.devices) device)
      (slot_at (devices_image m next.devices) device) (flies_at device bio.device bio.stage)
  pub parents : ParentsFly s next

-- a stage that a bio may come to where its parent and its device stay: its own, or it enters where
-- it was held, or it has recorded more
pub data StageGoes : Stage → Stage → Type 0 where
  Stays : {stage : Stage} → StageGoes stage stage
  Enters : {due holder : ℕ} → StageGoes (Held due holder) Entering
  Records : {failed more : Bool} {sectors others : Sectors}
      → StageGoes (InFlight failed sectors) (InFlight more others)

-- so a bio in flight stays in flight
pub goes-flies : {old stage : Stage} → StageGoes old stage → (failed : Bool) (answered : Sectors)
    → old ≡ InFlight failed answered
    → (more : Bool) × (others : Sectors) × (stage ≡ InFlight more others)
goes-flies holds failed answered is = search rules

-- a bio in flight that is there as it was still flies
pub still-flies : {S : Type 0} (s next : State S) (number : ℕ) (above : Bio)
    → Flying s number above → bio_of next number ≡ Some above → StillFlies next number above
still-flies s next number above flying there = search rules

-- what fits a table fits one that is as long
longer-fits : {S : Type 0} (kind : Kind) (span : Span) (table later : Table S)
    → size_of table ≤ size_of later → fits_table table kind span ≡ true
    → fits_table later kind span ≡ true
longer-fits kind span table later longer inside = grind (arith, nat_tests)

module _ {S : Type 0} (m : Meaning S) (c : Scenario S) (s next : State S)
    (leaves : Leaves m s next) where
  -- what is inside a device is still inside, if its table stays as long
  pub carry-device : (flies : ℕ → Bool) (device : DevNo) (kind : Kind) (span : Span)
      → ((number : ℕ) → device ≡ Dm number → TableKept
      (slot_at (devices_image m s.devices) number)
      (slot_at (devices_image m next.devices) number) (flies number))
      → FitsDevice s device kind span → FitsDevice next device kind span
  carry-device flies (Ram number) kind span keeps fits = search (rules, option_to-alike)
  carry-device flies (Dm number) kind span keeps fits =
      let kept = keeps number refl (image m fits.table)
      (table-seen m s number fits.slot fits.table fits.stands fits.is_live) in
      let own = table-there m next number kept.0 kept.1 in
      search (rules, longer-fits, size_of-image)

  module _ (number : ℕ) (bio : Bio) (lives : bio_of s number ≡ Some bio) (stage : Stage) where
    -- the bio at the stage that it comes to
    abbrev now : Bio
    now = record bio { stage = stage }

    -- a child still goes where its piece's line refers to
    carry-piece : (parent : ℕ) (piece : Piece) (device : ℕ) → bio.parent ≡ FromBio parent piece
        → FromPiece m s number bio parent piece device
        → FromPiece m next number now parent piece device
    carry-piece parent piece device is from =
        let still = leaves.parents number bio parent piece lives is from.above
        (search rules) in
        let kept = leaves.tables parent from.above device from.lives from.at_device
        (image m from.table)
        (table-seen m s device from.slot from.table from.stands from.is_live) in
        let found = table-there m next device kept.0 kept.1 in
        let alike = found.same
        ∙ kept.3 (rw (from.flies, from.at_device) (eq-eqb device device refl)) in
        let own = line-kept m from.table found.table alike piece.line from.line from.is_line in
        record {
          above = record from.above { stage = InFlight still.0 still.1 };
          failed = still.0;
          answered = still.1;
          slot = found.slot;
          table = found.table;
          line = own.0;
          ref = from.ref;
          earlier = from.earlier;
          lives = still.2;
          flies = refl;
          at_device = from.at_device;
          same_kind = from.same_kind;
          stands = found.stands;
          is_live = found.is_live;
          is_line = own.1;
          refers = ap (λ l. l.target.reference bio.kind) own.2 ∙ from.refers;
          goes_to = from.goes_to;
          shifts = search (rules, placed-same);
        }

    -- a bio stands as before with whom it answers to
    pub carry-parent : (parent : Parent) → bio.parent ≡ parent → FitsParent m c s number bio parent
        → FitsParent m c next number now parent
    carry-parent (FromLog log line action) is from = search rules
    carry-parent (FromBio above piece) is from = (from.0, carry-piece above piece from.0 is from.1)

    -- a bio stands at the stage that it comes to
    carry-stage : {old later : Stage} → StageGoes old later → FitsStage m s number bio old
        → FitsStage m next number now later
    carry-stage holds fits = search (rules, carry-piece)

    -- a bio stands as it stood, at a stage that it may come to
    pub carry-bio : FitsBio m c s number bio → StageGoes bio.stage stage
        → FitsBio m c next number now
    carry-bio fits goes =
        let device = carry-device (λ device. flies_at device bio.device bio.stage) bio.device
        bio.kind bio.span (λ device at. leaves.tables number bio device lives at) fits.device in
        search (rules, carry-parent bio.parent refl fits.parent, carry-stage goes fits.stage)
