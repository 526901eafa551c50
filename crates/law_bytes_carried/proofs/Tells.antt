-- Where a bio is answered, the one that it was made for a piece of has what it gave, in its place.
use Rattle.lab_model.proofs.Common.{rules, ◌+◌, ◌-◌, ◌<◌, ap, arith, Bool, false, inl, inr, length}
use Rattle.lab_model.proofs.Common.{List, refl, slice_get, Some, sym, true, ℕ, ◌∙◌, ◌≡◌, ◌≤◌, ◌⊎◌}
use Rattle.lab_model.proofs.Common.{Bio, bio_of, cases_eq, cases_lt, Gave, InFlight, marked, put}
use Rattle.lab_model.proofs.Common.{Read, recorded_at, Sectors, Some-holds, Stage, State}
use Rattle.law_sectors_touched.proofs.Descent.{child-descends, comes-from}
use Rattle.law_sectors_touched.proofs.Leaving.{told-same}
use Rattle.law_bytes_carried.proofs.Words.{above-of, answered-leaves, comes-stay, descends, Fits}
use Rattle.law_bytes_carried.proofs.Words.{is_flying, IsAnswered, IsTold, Leaves, leaves-passage}
use Rattle.law_bytes_carried.proofs.Words.{length-put, LiesUnder, Passage, told-each}
use Rattle.law_bytes_carried.proofs.Loads.{AllLoad, below-lasts, flying-is, Going, Hangs}
use Rattle.law_bytes_carried.proofs.Loads.{going-sound, HangsOr, HasBytes, Holds, lies-lasts}
use Rattle.law_bytes_carried.proofs.Loads.{load-lasts}
use Rattle.law_bytes_carried.specs.Carried.{stands_for}
use Rattle.law_bytes_carried.proofs.MapLoads.{in-flight-sectors}
use Rattle.law_bytes_carried.proofs.Places.{child-stands, stands-one}
use Rattle.law_bytes_carried.proofs.Seats.{Course, Seat, seat-stays}
use Rattle.law_bytes_carried.proofs.Served.{put-outside, put-there}

-- a stage in flight, with what has been recorded
abbrev Flown : Stage → Type 0
Flown stage = (failed : Bool) × (sectors : Sectors) × (stage ≡ InFlight failed sectors)

-- a bio that is answered, with what it gives where it is an operation's
pub record Telling {S : Type 0} (o : Course S) (s next : State S) (at : ℕ) : Type 0 where
  -- the operation is under way, and the next state fits
  pub going : Going o s
  pub next_fits : Fits o.m o.c next
  -- the bio is told something
  pub by : IsAnswered s at next
  pub open by use {bio, lives, told}
  -- where it descends from the first it gives these sectors, as many as it has
  pub given : Sectors
  pub gave : descends s o.first at ≡ true → by.told ≡ Gave given
  pub size : descends s o.first at ≡ true → o.op.kind ≡ Read → length given ≡ by.bio.span.len

-- the others are left
pub tells-leaves : {S : Type 0} {o : Course S} {s next : State S} {at : ℕ} → Telling o s next at
    → Leaves s at next
tells-leaves t = answered-leaves t.by

-- so those that were there stayed
pub tells-passage : {S : Type 0} {o : Course S} {s next : State S} {at : ℕ} → Telling o s next at
    → Passage o.m o.c o.first s next
tells-passage t = leaves-passage (tells-leaves t) t.next_fits t.going.numbered

module _ {S : Type 0} {o : Course S} {s next : State S} {at : ℕ} (t : Telling o s next at) where
  -- the state fits
  fits : Fits o.m o.c s
  fits = (going-sound t.going).fits

  -- one that is told was in flight where it is
  told-flew : (n : ℕ) (y : Bio) → (is : IsTold s t.bio t.told n y) → is_flying y.stage ≡ true
      → is_flying is.old.stage ≡ true
  told-flew n y is flies = search rules

  module _ {n : ℕ} {y : Bio} (is : IsTold s t.bio t.told n y)
      (comes : descends s o.first n ≡ true) where
    -- where its piece begins in it
    abbrev begin : ℕ
    begin = is.piece.span.first - is.old.span.first

    -- the bio that tells it has a higher number, and descends where it does
    from-up : o.first < at
    from-up =
        let from = above-of fits at t.bio n is.piece t.lives is.is_parent in
        omega (arith, (comes-from fits o.first n is.old is.stood comes).up, from.earlier)

    -- so it descends, too
    told-comes : descends s o.first at ≡ true
    told-comes = child-descends fits o.first at n t.bio is.old is.piece t.lives
        is.is_parent from-up is.stood ∙ comes

    -- the places of the bio stand for those of its piece
    piece-stands : (i : ℕ) → stands_for s o.first at i ≡ stands_for s o.first n (begin + i)
    piece-stands i = search (rules, child-stands, fits, from-up)

    -- its piece lies in it
    lies : LiesUnder t.bio.span is.piece.span is.old.span
    lies = (t.going.loads at t.bio t.lives told-comes).lies n is.piece is.old is.is_parent is.stood

    -- where it was in flight
    module _ (was : Flown is.old.stage) where
      -- what it has recorded now
      abbrev recorded_now : Sectors
      recorded_now = put was.1 begin t.given

      -- it is in flight with that
      now : y.stage ≡ InFlight was.0 recorded_now
      now =
          let none = (t.going.fares at t.bio t.lives told-comes).marks n is.piece is.is_parent in
          ap (λ b. b.stage) is.is
          ∙ ap (λ told. recorded_at t.bio is.piece told is.old is.old.stage) (t.gave told-comes)
          ∙ ap (recorded_at t.bio is.piece (Gave t.given) is.old) was.2
          ∙ ap (λ marks. InFlight was.0 (put was.1 begin (marked marks t.given))) none

      -- what it had recorded was sound
      was-sound : (was.0 ≡ false) × (o.op.kind ≡ Read → length was.1 ≡ is.old.span.len)
      was-sound = (t.going.loads n is.old is.stood comes).sound was.0 was.1 was.2

      -- what is recorded now is sound
      told-sound : (failed : Bool) (sectors : Sectors) → y.stage ≡ InFlight failed sectors
          → (failed ≡ false) × (o.op.kind ≡ Read → length sectors ≡ y.span.len)
      told-sound failed sectors stage =
          search (rules, now, was-sound, in-flight-sectors, length-put, told-comes, lies)

      module _ (reads : o.op.kind ≡ Read) (k : ℕ) (bytes : List ℕ) where
        -- so a place of the piece has what the bio gives
        put-bytes : (i : ℕ) → k ≡ begin + i → i < t.bio.span.len
            → slice_get t.given i ≡ Some bytes → HasBytes y k bytes
        put-bytes i at_k less gives =
            search (rules, in-flight-sectors, now, put-there, was-sound, lies, told-comes)

        -- and another what it had
        keeps-bytes : HasBytes is.old k bytes → (k < begin) ⊎ (begin + t.bio.span.len ≤ k)
            → HasBytes y k bytes
        keeps-bytes has outside =
            search (rules, told-comes, in-flight-sectors, now, put-outside, was-sound, lies)

  -- so all are sound
  pub tells-loads : AllLoad o.op o.first next
  tells-loads n y there comes = elim (told-each t.by n y there).1 [
    | inl was ↦ load-lasts (tells-passage t) t.going.loads n y was.0 there comes
    | inr is ↦
        let came = sym (comes-stay (tells-passage t) n is.stood there) ∙ comes in
        record {
          sound = λ failed sectors stage. told-sound is came
              (flying-is is.old.stage (told-flew n y is (ap is_flying stage))) failed sectors stage;
          lies = lies-lasts (tells-passage t) n is.stood there (told-same is)
              (t.going.loads n is.old is.stood came);
        }
  ]

  module _ {place : ℕ} where
    -- what hangs, or is held, does on, where one that is told keeps what it has, and has what a bio
    -- below it tells it
    tells-hangs-or : (Has : Bio → ℕ → Type 0) → ((n k : ℕ) (y : Bio)
        → (is : IsTold s t.bio t.told n y) → Flown is.old.stage
        → Seat s o.first place n k is.old → Has is.old k → Has y k) → ((n k i : ℕ) (y : Bio)
        → (is : IsTold s t.bio t.told n y) → Flown is.old.stage
        → Seat s o.first place n k is.old → Seat s o.first place at i t.bio → Has y k)
        → HangsOr Has s o.first place → HangsOr Has next o.first place
    tells-hangs-or Has keeps gains hangs n k y seat flies = elim (told-each t.by n y seat.lives).1 [
      | inl was ↦ elim (hangs n k y (seat-stays (tells-passage t) was.0 seat refl) flies) [
        | inl has ↦ inl has
        | inr below ↦ inr (below-lasts (tells-passage t) (tells-leaves t) below (λ same.
            was.1 below.piece (ap (λ b. b.parent) (Some-holds (sym t.lives ∙ ap (bio_of s) (sym
            same)
            ∙ below.seat.lives)) ∙ below.is_piece)))
      ]
      | inr is ↦
          let old_seat = seat-stays (tells-passage t) is.stood seat (ap (λ b. b.span) is.is) in
          let flew = told-flew n y is flies in
          let was = flying-is is.old.stage flew in
          elim (hangs n k is.old old_seat flew) [
            | inl has ↦ inl (keeps n k y is was old_seat has)
            | inr below ↦ elim (cases_eq below.number at) [
              | inl same ↦ inl (gains n k below.i y is was old_seat (search (rules, same)))
              | inr apart ↦ inr (below-lasts (tells-passage t) (tells-leaves t) below apart)
            ]
          ]
    ]

    -- where it has no part of a place, what hangs is as before
    pub tells-hangs : ((k : ℕ) → Seat s o.first place at k t.bio → ⊥) → Hangs s o.first place
        → Hangs next o.first place
    tells-hangs none = search (rules, tells-hangs-or)

    module _ (bytes : List ℕ) (gives : (k : ℕ) → Seat s o.first place at k t.bio
        → slice_get t.given k ≡ Some bytes) (reads : o.op.kind ≡ Read) where
      -- one that is told has the bytes, where it had them or the answered bio does
      told-holds : (n k : ℕ) (y : Bio) → (is : IsTold s t.bio t.told n y) → Flown is.old.stage
          → Seat s o.first place n k is.old → HasBytes is.old k bytes → HasBytes y k bytes
      told-holds n k y is was seat has = elim (cases_lt k (begin is seat.comes)) [
        | inl before ↦ keeps-bytes is seat.comes was reads k bytes has (inl before)
        | inr over ↦ elim (cases_lt k (begin is seat.comes + t.bio.span.len)) [
          | inl within ↦
              let i = k - begin is seat.comes in
              let at_k : k ≡ begin is seat.comes + i = omega (arith, over) in
              let less : i < t.bio.span.len = omega (arith, within, over) in
              put-bytes is seat.comes was reads k bytes i at_k less (gives i (record {
                lives = t.lives;
                comes = told-comes is seat.comes;
                within = less;
                stands = piece-stands is seat.comes i
                    ∙ ap (stands_for s o.first n) (sym at_k) ∙ seat.stands;
              }))
          | inr behind ↦ keeps-bytes is seat.comes was reads k bytes has (inr behind)
        ]
      ]

      -- so all hold them
      pub tells-holds : Holds s o.first place bytes → Holds next o.first place bytes
      tells-holds = tells-hangs-or (λ b k. HasBytes b k bytes) told-holds (λ n k i y is was it own.
          put-bytes is it.comes was reads k bytes i
          (search (rules, stands-one, piece-stands is it.comes i)) own.within (gives i own))
