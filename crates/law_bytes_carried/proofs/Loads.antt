-- What the bios of an operation in flight have recorded: none has failed, and of a place that a
-- disk has served each has the bytes, or another that was made for a piece of it has; and what
-- holds of the operation at each state from its making on.
use Rattle.lab_model.proofs.Common.{rules, ap, arith, Bool, false, inl, inr, length, List, refl}
use Rattle.lab_model.proofs.Common.{slice_get, Some, sym, true, ℕ, ◌∙◌, ◌≡◌, ◌≢◌, ◌≤◌, ◌⊎◌, Bio}
use Rattle.lab_model.proofs.Common.{bio_of, devices_image, Fine, Flush, InFlight, IsRun}
use Rattle.lab_model.specs.declared.parent.Parent.TheVariants.{FromBio}
use Rattle.lab_model.proofs.Common.{Lawful, Meaning, None-not-Some, Read, Scenario, Sectors}
use Rattle.lab_model.proofs.Common.{Some-holds, Stage, State}
use Rattle.law_sectors_touched.proofs.Judged.{Sound}
use Rattle.law_sectors_touched.proofs.Operations.{run-sound}
use Rattle.law_sectors_touched.proofs.Ways.{AllTravel}
use Rattle.law_bytes_carried.proofs.Words.{above-of, came-kept, comes-stay, descends, entry-within}
use Rattle.law_bytes_carried.proofs.Words.{Event, is_flying, Judged, Leaves, LeavesAll, LiesUnder}
use Rattle.law_bytes_carried.proofs.Words.{Passage, Piece}
use Rattle.law_bytes_carried.proofs.Seats.{AllFare, Course, Seat, seat-lasts, seat-stays}
use Rattle.law_bytes_carried.specs.Plain.{WayIsPlain}

-- a bio of an operation: in flight it hasn't failed, and a read has recorded as many sectors as it
-- has; its piece lies in the bio above
pub record Load {S : Type 0} (op : Bio) (s : State S) (bio : Bio) : Type 0 where
  pub sound : (failed : Bool) (sectors : Sectors) → bio.stage ≡ InFlight failed sectors
      → (failed ≡ false) × (op.kind ≡ Read → length sectors ≡ bio.span.len)
  pub lies : (parent : ℕ) (piece : Piece) (above : Bio) → bio.parent ≡ FromBio parent piece
      → bio_of s parent ≡ Some above → LiesUnder bio.span piece.span above.span

-- all bios of the operation
abbrev pub AllLoad : {S : Type 0} → Bio → ℕ → State S → Type 0
AllLoad op first s = (number : ℕ) (bio : Bio) → bio_of s number ≡ Some bio
    → descends s first number ≡ true → Load op s bio

-- a living bio that was made for a piece of another carries a place of it
pub record Below {S : Type 0} (s : State S) (first place above : ℕ) : Type 0 where
  pub number : ℕ
  pub i : ℕ
  pub bio : Bio
  pub piece : Piece
  pub seat : Seat s first place number i bio
  pub is_piece : bio.parent ≡ FromBio above piece

-- what a bio has recorded has these bytes at a place
abbrev pub HasBytes : Bio → ℕ → List ℕ → Type 0
HasBytes bio i bytes = (failed : Bool) (sectors : Sectors) → bio.stage ≡ InFlight failed sectors
    → slice_get sectors i ≡ Some bytes

-- each bio in flight that has a place is as is said of it, or has another below it that has it
abbrev pub HangsOr : {S : Type 0} → (Bio → ℕ → Type 0) → State S → ℕ → ℕ → Type 0
HangsOr Has s first place = (n k : ℕ) (bio : Bio) → Seat s first place n k bio
    → is_flying bio.stage ≡ true → Has bio k ⊎ Below s first place n

-- while a place is still to be served, another below it has it
abbrev pub Hangs : {S : Type 0} → State S → ℕ → ℕ → Type 0
Hangs s first place = HangsOr (λ bio k. ⊥) s first place

-- once it is served, the bio has the bytes, or another below it has the place
abbrev pub Holds : {S : Type 0} → State S → ℕ → ℕ → List ℕ → Type 0
Holds s first place bytes = HangsOr (λ bio k. HasBytes bio k bytes) s first place

-- a stage in flight
pub flying-is : (stage : Stage) → is_flying stage ≡ true
    → (failed : Bool) × (sectors : Sectors) × (stage ≡ InFlight failed sectors)
flying-is stage flies = search rules

module _ {S : Type 0} {m : Meaning S} {c : Scenario S} {first : ℕ} {s next : State S}
    (p : Passage m c first s next) where
  -- a piece lies in the bio above as before
  pub lies-lasts : {op : Bio} (number : ℕ) {old bio : Bio} → bio_of s number ≡ Some old
      → bio_of next number ≡ Some bio → bio ≡ record old { stage = bio.stage }
      → Load op s old → (parent : ℕ) (piece : Piece) (above : Bio) → bio.parent
      ≡ FromBio parent piece → bio_of next parent ≡ Some above
      → LiesUnder bio.span piece.span above.span
  lies-lasts number {old} {bio} stood lives same load parent piece above is there =
      let from = above-of p.fits number bio parent piece lives is in
      let up = entry-within s.bios number old stood in
      let stay = p.stayed parent above (omega (arith, from.earlier, up)) there in
      search rules

  -- a bio that is as it was is as sound
  pub load-lasts : {op : Bio} → AllLoad op first s → (n : ℕ) (bio : Bio) → bio_of s n ≡ Some bio
      → bio_of next n ≡ Some bio → descends next first n ≡ true → Load op next bio
  load-lasts loads n bio stood lives comes =
      search (rules, lies-lasts, loads n bio stood (sym (comes-stay p n stood lives) ∙ comes))

  -- a bio below lives on, if it isn't the one that is gone
  pub below-lasts : {at : ℕ} → Leaves s at next → {place above : ℕ}
      → (below : Below s first place above) → below.number ≢ at → Below next first place above
  below-lasts leaves below apart =
      let on = leaves.remains below.number below.bio below.seat.lives apart in
      record {
        number = below.number;
        i = below.i;
        bio = on.later;
        piece = below.piece;
        seat = seat-lasts p below.seat on.lives (ap (λ b. b.span) on.same);
        is_piece = ap (λ b. b.parent) on.same ∙ below.is_piece;
      }

  module _ (left : LeavesAll s next) where
    -- where those in flight are the same, all are as before
    pub quiet-loads : {op : Bio} → AllLoad op first s → AllLoad op first next
    quiet-loads loads number bio lives comes =
        let kept = came-kept left.leaves p number bio lives comes in
        let before = loads number kept.old kept.stood
        (sym (comes-stay p number kept.stood lives) ∙ comes) in
        record {
          sound = λ failed sectors is.
              let was = left.same number bio lives (ap is_flying is) in
              let one : kept.old ≡ bio = Some-holds (sym kept.stood ∙ was) in
              let sound = before.sound failed sectors (ap (λ b. b.stage) one ∙ is) in
              (sound.0, λ reads. sound.1 reads ∙ ap (λ b. b.span.len) one);
          lies = lies-lasts number kept.stood lives kept.same before;
        }

    -- so is what hangs, or is held
    pub quiet-hangs : (Has : Bio → ℕ → Type 0) {place : ℕ} → HangsOr Has s first place
        → HangsOr Has next first place
    quiet-hangs Has hangs n k bio seat flies =
        let was = left.same n bio seat.lives flies in
        elim (hangs n k bio (seat-stays p was seat refl) flies) [
          | inl has ↦ inl has
          | inr below ↦ inr (below-lasts left.leaves below
              (λ is. None-not-Some (ap (bio_of s) (sym is) ∙ below.seat.lives)))
        ]

-- a state after the operation's making, in a run
pub record Going {S : Type 0} (o : Course S) (s : State S) : Type 0 where
  -- the targets keep to their laws, and the scenario is fine
  pub lawful : Lawful o.m
  pub fine : Fine o.m o.c
  -- the run
  pub past : List Event
  pub run : IsRun o.m o.c past s
  -- the operation has sectors, and is numbered
  pub sized : o.op.kind ≢ Flush
  pub numbered : o.first ≤ length s.bios
  -- the lines on its way pass each piece as it is, and all its bios are on it
  pub plain : WayIsPlain o.m s o.op.kind o.way
  pub travel : AllTravel s o.first o.op.kind o.way
  -- the devices have the images that they had
  pub image : devices_image o.m s.devices ≡ devices_image o.m o.begun.devices
  -- each bio carries what the operation has at its places, and what it has recorded is sound
  pub fares : AllFare o s
  pub loads : AllLoad o.op o.first s

module _ {S : Type 0} {o : Course S} {s : State S} (g : Going o s) where
  -- the state is sound
  pub going-sound : Sound o.m o.c s
  going-sound = run-sound o.m g.lawful o.c g.fine g.past s g.run

  -- a bio of the operation is of its kind
  pub kind-of : (number : ℕ) (bio : Bio) → bio_of s number ≡ Some bio
      → descends s o.first number ≡ true → bio.kind ≡ o.op.kind
  kind-of number bio lives comes = (g.travel number bio lives comes).0

  -- one that a table judges isn't a flush
  pub not-flush : {number : ℕ} (j : Judged o.m s number) → descends s o.first number ≡ true
      → j.bio.kind ≢ Flush
  not-flush {number} j comes flush = g.sized (sym (kind-of number j.bio j.lives comes) ∙ flush)
