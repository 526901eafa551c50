-- Who carries a place of an operation: one bio that isn't in flight, until a disk has served it.
use Rattle.lab_model.proofs.Common.{rules, ◌+◌, ◌<◌, ap, Bool, false, Option, slice_get, Some}
use Rattle.lab_model.proofs.Common.{subst, sym, true, ℕ, ◌∙◌, ◌≡◌, ◌≢◌, Bio, bio_of, DevNo}
use Rattle.lab_model.specs.declared.parent.Parent.TheVariants.{FromBio}
use Rattle.lab_model.proofs.Common.{Meaning, no_marks, None-not-Some, Scenario, State, Write}
use Rattle.law_sectors_touched.proofs.Descent.{Stayed}
use Rattle.law_sectors_touched.proofs.KeptBios.{Kept}
use Rattle.law_bytes_carried.proofs.Words.{came-kept, comes-stay, descends, DiskSector, is_flying}
use Rattle.law_bytes_carried.proofs.Words.{Leaves, Passage, Piece, route}
use Rattle.law_bytes_carried.specs.Carried.{stands_for}
use Rattle.law_bytes_carried.proofs.Places.{place-stays}

-- a place of a living bio that descends from the first, and stands for a place of that
pub record Seat {S : Type 0} (s : State S) (first place number i : ℕ) (bio : Bio) : Type 0 where
  pub lives : bio_of s number ≡ Some bio
  pub comes : descends s first number ≡ true
  pub within : i < bio.span.len
  pub stands : stands_for s first number i ≡ place

-- one such place of a bio that isn't in flight, and no other
pub record Waits {S : Type 0} (s : State S) (first place : ℕ) : Type 0 where
  pub number : ℕ
  pub i : ℕ
  pub bio : Bio
  pub seat : Seat s first place number i bio
  pub rests : is_flying bio.stage ≡ false
  pub only : (n k : ℕ) (other : Bio) → Seat s first place n k other
      → is_flying other.stage ≡ false → (n ≡ number) × (k ≡ i)

-- the place of the bio that carries it, where that is another's
pub waits-seat : {S : Type 0} {s : State S} {first place : ℕ} (w : Waits s first place) (number : ℕ)
    {bio : Bio} → bio_of s number ≡ Some bio → w.number ≡ number → Seat s first place number w.i bio
waits-seat {s = s} {first = first} {place = place} w number lives is = search rules

-- no such place but of bios in flight
abbrev pub Gone : {S : Type 0} → State S → ℕ → ℕ → Type 0
Gone s first place = (n k : ℕ) (bio : Bio) → Seat s first place n k bio
    → is_flying bio.stage ≢ false

-- what stays the same while an operation is under way: what targets mean, and the scenario; the
-- state in which it was made, itself, and its number; and a way that it is on
pub record Course (S : Type 0) : Type 0 where
  pub m : Meaning S
  pub c : Scenario S
  pub begun : State S
  pub op : Bio
  pub first : ℕ
  pub way : DevNo → ℕ → Bool

-- the route of a place of the operation
abbrev pub route_of : {S : Type 0} → Course S → ℕ → Option DiskSector
route_of o place = route o.m o.begun o.op.kind o.op.device (o.op.span.first + place)

-- what a bio that descends from the first carries: no marks of a piece; each of its places has the
-- route of the place that it stands for, and a write's bytes are those that are to come there
pub record Fare {S : Type 0} (o : Course S) (s : State S) (number : ℕ) (bio : Bio) : Type 0 where
  pub marks : (parent : ℕ) (piece : Piece) → bio.parent ≡ FromBio parent piece
      → bio.marks ≡ no_marks
  pub routed : (i : ℕ) → i < bio.span.len
      → route o.m o.begun o.op.kind bio.device (bio.span.first + i)
      ≡ route_of o (stands_for s o.first number i)
  pub filled : o.op.kind ≡ Write → (i : ℕ) → i < bio.span.len
      → slice_get bio.sectors i ≡ slice_get o.op.sectors (stands_for s o.first number i)

-- all do
abbrev pub AllFare : {S : Type 0} → Course S → State S → Type 0
AllFare o s = (number : ℕ) (bio : Bio) → bio_of s number ≡ Some bio
    → descends s o.first number ≡ true → Fare o s number bio

module _ {S : Type 0} {m : Meaning S} {c : Scenario S} {first : ℕ} {s next : State S}
    (p : Passage m c first s next) where
  -- what a bio that stays has on, it has
  pub seat-stays : {place number i : ℕ} {old bio : Bio} → bio_of s number ≡ Some old
      → Seat next first place number i bio → bio.span ≡ old.span
      → Seat s first place number i old
  seat-stays {number = number} {i = i} stood seat span = record {
    lives = stood;
    comes = sym (comes-stay p number stood seat.lives) ∙ seat.comes;
    within = subst (λ span. i < span.len) span seat.within;
    stands = sym (place-stays p number stood seat.lives i) ∙ seat.stands;
  }

  -- and what it had it has on
  pub seat-lasts : {place number i : ℕ} {old bio : Bio} → Seat s first place number i old
      → bio_of next number ≡ Some bio → bio.span ≡ old.span → Seat next first place number i bio
  seat-lasts {number = number} {i = i} seat lives span = record {
    lives = lives;
    comes = comes-stay p number seat.lives lives ∙ seat.comes;
    within = subst (λ span. i < span.len) (sym span) seat.within;
    stands = place-stays p number seat.lives lives i ∙ seat.stands;
  }

  module _ {at : ℕ} (leaves : Leaves s at next) where
    -- a place of the operation that a bio has after an event was its own before
    pub seat-back : {place number i : ℕ} {bio : Bio} → Seat next first place number i bio
        → (kept : Kept s number bio) × Seat s first place number i kept.old
    seat-back seat = let kept = came-kept leaves p _ _ seat.lives seat.comes in
        (kept, seat-stays kept.stood seat (ap (λ b. b.span) kept.same))

    -- where none carried a place none does
    pub gone-on : {place : ℕ} → Gone s first place → Gone next first place
    gone-on gone n k bio seat rests =
        let back = seat-back seat in
        gone n k back.0.old back.1 (sym back.0.flies ∙ rests)

    -- where the bio that carries it lives on it carries it on
    pub waits-on : {place : ℕ} → (w : Waits s first place) → w.number ≢ at
        → Waits next first place
    waits-on w apart =
        let on = leaves.remains w.number w.bio w.seat.lives apart in
        record {
          number = w.number;
          i = w.i;
          bio = on.later;
          seat = seat-lasts w.seat on.lives (ap (λ b. b.span) on.same);
          rests = on.flies ∙ w.rests;
          only = λ n k other there rests.
              let was = seat-back there in
              w.only n k was.0.old was.1 (sym was.0.flies ∙ rests);
        }

    -- where that bio is gone none carries it
    pub waits-served : {place : ℕ} (w : Waits s first place) → w.number ≡ at → Gone next first place
    waits-served w is n k bio seat rests =
        search (rules, seat-back seat, w.only, leaves.without, None-not-Some)

module _ {S : Type 0} {o : Course S} {s next : State S} (p : Passage o.m o.c o.first s next)
    (fares : AllFare o s) where
  -- a bio that stayed carries the same
  pub fare-lasts : (number : ℕ) (bio : Bio) → Stayed s number bio → bio_of next number ≡ Some bio
      → descends next o.first number ≡ true → Fare o next number bio
  fare-lasts number bio stay lives comes =
      let before = fares number stay.old stay.stood
      (sym (comes-stay p number stay.stood lives) ∙ comes) in
      let stands = place-stays p number stay.stood lives in
      search rules

  -- so do all that an event leaves
  pub fares-on : {at : ℕ} → Leaves s at next → AllFare o next
  fares-on leaves number bio lives comes =
      fare-lasts number bio (came-kept leaves p number bio lives comes).stayed lives comes
