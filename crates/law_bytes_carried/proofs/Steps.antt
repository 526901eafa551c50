-- With each event but the script's, each place of an operation is carried on, or a disk serves it
-- and none carries it any more; and the bios of the operation stay sound: what hangs hangs on, what
-- is held is held on, and what is served is held with the bytes that the disk has there.
use Rattle.lab_model.proofs.Common.{rules, ◌+◌, ◌<◌, [], ap, false, if◌then◌else◌, inl, inr, length}
use Rattle.lab_model.proofs.Common.{List, refl, slice_get, Some, sym, true, ℕ, ◌∙◌, ◌∷◌, ◌≡◌, ◌≢◌}
use Rattle.lab_model.proofs.Common.{◌⊎◌, Bio, bio_of, cases_eq, effect, Failed, Flush, Gave}
use Rattle.lab_model.proofs.Common.{is_enabled, Kind, Next, None-not-Some, Read, Sectors, State}
use Rattle.lab_model.proofs.Common.{Trim, Write}
use Rattle.law_sectors_touched.proofs.Owed.{disk-route}
use Rattle.law_sectors_touched.proofs.SentBios.{sent-passage}
use Rattle.law_bytes_carried.proofs.Words.{Clock, clock-leaves, Control, descends, DiskSector, Fits}
use Rattle.law_bytes_carried.proofs.Words.{Event, Finish, Finishing, finishing-of, is_control, Line}
use Rattle.law_bytes_carried.proofs.Words.{is_flying, leaves-passage, LeavesAll, line-leaves, Map}
use Rattle.law_bytes_carried.proofs.Words.{map-gives, Release, release-leaves, route, Serve}
use Rattle.law_bytes_carried.proofs.Words.{Serving, serving-of}
use Rattle.law_bytes_carried.specs.Carried.{bytes_at, carried_by}
use Rattle.law_bytes_carried.proofs.Entries.{serves-none, serves-one}
use Rattle.law_bytes_carried.proofs.Loads.{AllLoad, Below, Going, going-sound, Hangs, HasBytes}
use Rattle.law_bytes_carried.proofs.Loads.{Holds, kind-of, quiet-hangs, quiet-loads}
use Rattle.law_bytes_carried.proofs.MapLoads.{map-hangs, map-holds, map-loads}
use Rattle.law_bytes_carried.proofs.MapSeats.{map-fares, map-gone, map-waits}
use Rattle.law_bytes_carried.proofs.Seats.{AllFare, Course, fares-on, Gone, gone-on, route_of, Seat}
use Rattle.law_bytes_carried.proofs.Seats.{Waits, waits-on, waits-seat, waits-served}
use Rattle.law_bytes_carried.proofs.Served.{IsServed, moved_of, replicate-place, serving-is}
use Rattle.law_bytes_carried.proofs.Tells.{Telling, tells-hangs, tells-holds, tells-leaves}
use Rattle.law_bytes_carried.proofs.Tells.{tells-loads, tells-passage}

-- a place is still to be served: a bio carries it, and what is above that hangs
abbrev pub Pending : {S : Type 0} → State S → ℕ → ℕ → Type 0
Pending s first place = Waits s first place × Hangs s first place

-- the bytes that the operation moves at a place, where a read gives these sectors
abbrev pub IsMoved : {S : Type 0} → Course S → Sectors → ℕ → List ℕ → Type 0
IsMoved o given place bytes = slice_get (moved_of o.op.kind given o.op) place ≡ Some bytes

-- an event serves nothing for a place
abbrev pub ServesNone : {S : Type 0} → Course S → State S → State S → ℕ → Event → Type 0
ServesNone o s next place event = carried_by s (Next next) o.first place event ≡ []

-- an event serves a place at its route, and nothing else for it, with the bytes that it moves
-- there; none carries it after that
pub record ServesPlace {S : Type 0} (o : Course S) (s next : State S) (place : ℕ) (event : Event)
    : Type 0 where
  pub sector : DiskSector
  pub is_route : route_of o place ≡ Some sector
  pub once : carried_by s (Next next) o.first place event
      ≡ record { sector = sector; bytes = bytes_at next sector } ∷ []
  pub moves : (given : Sectors) → place < o.op.span.len
      → (o.op.kind ≡ Read → slice_get given place ≡ Some (bytes_at next sector))
      → IsMoved o given place (bytes_at next sector)
  pub gone : Gone next o.first place

-- what becomes of a place that is still to be served: it still is, or it is served, and a read
-- holds it
abbrev pub GoesOn : {S : Type 0} → Course S → State S → State S → ℕ → Event → Type 0
GoesOn o s next place event =
    (Waits next o.first place × Hangs next o.first place × ServesNone o s next place event)
    ⊎ ((serves : ServesPlace o s next place event)
    × (o.op.kind ≡ Read → Holds next o.first place (bytes_at next serves.sector)))

-- what becomes of all bios and places with an event
pub record Step {S : Type 0} (o : Course S) (s next : State S) (event : Event) : Type 0 where
  pub fares : AllFare o next
  pub loads : AllLoad o.op o.first next
  pub pending : (p : ℕ) → Pending s o.first p → GoesOn o s next p event
  pub gone : (p : ℕ) → Gone s o.first p → Gone next o.first p × ServesNone o s next p event
  pub holds : o.op.kind ≡ Read → (p : ℕ) → Gone s o.first p → (bytes : List ℕ)
      → Holds s o.first p bytes → Holds next o.first p bytes

-- where all bios are left, and those in flight are the same, each place is carried on
quiet-step : {S : Type 0} {o : Course S} {s : State S} → Going o s → (next : State S)
    → Fits o.m o.c next → (event : Event) → LeavesAll s next
    → ((p : ℕ) → ServesNone o s next p event) → Step o s next event
quiet-step {s = s} g next fits event left none =
    let passage = leaves-passage left.leaves fits g.numbered in
    record {
      fares = fares-on passage g.fares left.leaves;
      loads = quiet-loads passage left g.loads;
      pending = λ p w. inl (
        waits-on passage left.leaves w.0
            (λ is. None-not-Some (ap (bio_of s) (sym is) ∙ w.0.seat.lives)),
        quiet-hangs passage left (λ bio k. ⊥) w.1,
        none p,
      );
      gone = λ p gone. (gone-on passage left.leaves gone, none p);
      holds = λ reads p gone bytes. quiet-hangs passage left (λ bio k. HasBytes bio k bytes);
    }

-- a bio is answered: where it carries a place, that is served, and else nothing is served for it;
-- what it gives are the bytes of the places that it has
pub record Answering {S : Type 0} (o : Course S) (s next : State S) (at : ℕ) (event : Event)
    : Type 0 where
  pub tells : Telling o s next at
  pub served : (p : ℕ) (w : Pending s o.first p) → w.0.number ≡ at → ServesPlace o s next p event
  pub sees : (p : ℕ) (w : Pending s o.first p) (is : w.0.number ≡ at) → o.op.kind ≡ Read → (k : ℕ)
      → Seat s o.first p at k tells.bio
      → slice_get tells.given k ≡ Some (bytes_at next (served p w is).sector)
  pub none : (p : ℕ) → ((i : ℕ) (b : Bio) → Seat s o.first p at i b
      → is_flying b.stage ≡ false → ⊥) → ServesNone o s next p event
  pub free : (p : ℕ) (w : Pending s o.first p) → w.0.number ≢ at → (k : ℕ)
      → Seat s o.first p at k tells.bio → ⊥
  pub gives : o.op.kind ≡ Read → (p : ℕ) → Gone s o.first p → (bytes : List ℕ)
      → Holds s o.first p bytes → (k : ℕ) → Seat s o.first p at k tells.bio
      → slice_get tells.given k ≡ Some bytes

-- so each place is carried on, or served
answer-step : {S : Type 0} {o : Course S} {s next : State S} {at : ℕ} {event : Event}
    → Answering o s next at event → Step o s next event
answer-step {at = at} a =
    let t = a.tells in
    let leaves = tells-leaves t in
    let passage = tells-passage t in
    record {
      fares = fares-on passage t.going.fares leaves;
      loads = tells-loads t;
      pending = λ p w. elim (cases_eq w.0.number at) [
        | inl is ↦ inr (
          a.served p w is,
          λ reads. tells-holds t _ (a.sees p w is reads) reads (λ n k y seat flies.
              elim (w.1 n k y seat flies) [
                | inl never ↦ absurd never
                | inr below ↦ inr below
              ]),
        )
        | inr apart ↦ inl (
          waits-on passage leaves w.0 apart,
          tells-hangs t (a.free p w apart) w.1,
          a.none p (λ i b seat rests. apart (sym (w.0.only at i b seat rests).0)),
        )
      ];
      gone = λ p gone. (gone-on passage leaves gone, a.none p (λ i b seat. gone at i b seat));
      holds = λ reads p gone bytes holds.
          tells-holds t bytes (a.gives reads p gone bytes holds) reads holds;
    }

module _ {S : Type 0} {o : Course S} {s : State S} (g : Going o s) (next : State S)
    (fits : Fits o.m o.c next) where
  -- where a bio in flight is finished
  module _ (at : ℕ) (f : Finishing s at next) where
    -- it hasn't failed, and has as many sectors as it gives
    finish-sound : descends s o.first at ≡ true
        → (f.failed ≡ false) × (o.op.kind ≡ Read → length f.sectors ≡ f.bio.span.len)
    finish-sound comes = (g.loads at f.bio f.lives comes).sound f.failed f.sectors f.is

    -- what it tells
    abbrev finish-tells : Telling o s next at
    finish-tells = record {
      going = g;
      next_fits = fits;
      by = record {
        bio = f.bio;
        lives = f.lives;
        told = (if f.failed then Failed else Gave f.sectors);
        bios = ap (λ t. t.bios) f.next_is;
        logs = ap (λ t. t.logs) f.next_is;
      };
      given = f.sectors;
      gave = λ comes. ap (λ test. if test then Failed else Gave f.sectors) (finish-sound comes).0;
      size = λ comes. (finish-sound comes).1;
    }

    -- no bio is below it
    none-below : {place : ℕ} → Below s o.first place at → ⊥
    none-below below = search rules

    -- so it gives what it holds
    pub finish-answers : Answering o s next at (Finish at)
    finish-answers = record {
      tells = finish-tells;
      served = λ p w is. absurd (search (rules, is));
      sees = λ p w is. absurd (search (rules, is));
      none = λ p no. refl;
      free = λ p w apart k seat. elim (w.1 at k f.bio seat (ap is_flying f.is)) [
        | inl never ↦ never
        | inr below ↦ none-below below
      ];
      gives = λ reads p gone bytes holds k seat.
          elim (holds at k f.bio seat (ap is_flying f.is)) [
            | inl has ↦ has f.failed f.sectors f.is
            | inr below ↦ absurd (none-below below)
          ];
    }

  -- where a disk serves a bio
  module _ (at : ℕ) (v : Serving s at next) where
    -- what it is served with
    served : IsServed s at v.bio v.disk next
    served = serving-is (going-sound g).fits v

    -- what it tells
    abbrev serve-tells : Telling o s next at
    serve-tells = record {
      going = g;
      next_fits = fits;
      by = record {
        bio = v.bio;
        lives = v.lives;
        told = Gave served.given;
        bios = served.bios;
        logs = served.logs;
      };
      given = served.given;
      gave = λ comes. refl;
      size = λ comes reads. served.size (kind-of g at v.bio v.lives comes ∙ reads);
    }

    -- it isn't in flight
    rests : (other : Bio) → bio_of s at ≡ Some other → is_flying other.stage ≡ false
    rests other there = search rules

    -- the bytes that the disk has at a place of it are those that the operation moves there
    place-moves : (kind : Kind) → o.op.kind ≡ kind → (place i : ℕ) → Seat s o.first place at i v.bio
        → (bytes : List ℕ) → slice_get (moved_of kind served.given v.bio) i ≡ Some bytes
        → (given : Sectors) → place < o.op.span.len
        → (kind ≡ Read → slice_get given place ≡ Some bytes)
        → slice_get (moved_of kind given o.op) place ≡ Some bytes
    place-moves Read is place i seat bytes here given less gives = gives refl
    place-moves Write is place i seat bytes here given less gives =
        ap (slice_get o.op.sectors) (sym seat.stands)
        ∙ sym ((g.fares at v.bio v.lives seat.comes).filled is i seat.within) ∙ here
    place-moves Trim is place i seat bytes here given less gives = search (rules, replicate-place)
    place-moves Flush is place i seat bytes here given less gives = absurd (g.sized is)

    module _ (place : ℕ) (w : Pending s o.first place) (is : w.0.number ≡ at) where
      -- the place that it carries
      seat : Seat s o.first place at w.0.i v.bio
      seat = waits-seat w.0 at v.lives is

      -- is served
      abbrev serves-place : ServesPlace o s next place (Serve at)
      serves-place =
          let i = w.0.i in
          let sector = v.bio.span.first + i in
          let own = kind-of g at v.bio v.lives seat.comes in
          record {
            sector = record { disk = v.disk; sector = sector };
            is_route = ap (route_of o) (sym seat.stands)
                ∙ sym ((g.fares at v.bio v.lives seat.comes).routed i seat.within)
                ∙ ap (λ d. route o.m o.begun o.op.kind d sector) v.on ∙ disk-route o.m o.begun
                (length o.begun.devices) o.op.kind v.disk sector;
            once = serves-one s (Next next) o.first place at i v.bio v.disk seat v.on
                (λ k own. (w.0.only at k v.bio own (rests v.bio v.lives)).1);
            moves = place-moves o.op.kind refl place i seat _
                (ap (λ k. slice_get (moved_of k served.given v.bio) i) (sym own)
                ∙ served.moves (λ flush. g.sized (sym own ∙ flush)) i seat.within);
            gone = waits-served (tells-passage serve-tells) (tells-leaves serve-tells) w.0 is;
          }

    -- so it gives what the disk has
    pub serve-answers : Answering o s next at (Serve at)
    serve-answers = record {
      tells = serve-tells;
      served = serves-place;
      sees = λ p w is reads k own.
          let kind = kind-of g at v.bio v.lives own.comes ∙ reads in
          ap (λ kind. slice_get (moved_of kind served.given v.bio) k) (sym kind)
          ∙ served.moves (λ flush. cc (kind, flush)) k own.within
          ∙ ap (λ n. Some (bytes_at next (record { disk = v.disk; sector = v.bio.span.first + n })))
          (w.0.only at k v.bio own (rests v.bio v.lives)).1;
      none = λ p no. serves-none s (Next next) o.first p at
          (λ i b seat. no i b seat (rests b seat.lives));
      free = λ p w apart k seat. apart (sym (w.0.only at k v.bio seat (rests v.bio v.lives)).0);
      gives = λ reads p gone bytes holds k seat.
          absurd (gone at k v.bio seat (rests v.bio v.lives));
    }

  -- with each event but the script's
  pub event-step : (event : Event) → is_control event ≡ false → is_enabled o.c s event ≡ true
      → effect o.m o.c s event ≡ Next next → Step o s next event
  event-step (Line log) quiet may leads = search (rules, quiet-step, line-leaves)
  event-step (Map at) quiet may leads = map-gives g.lawful (going-sound g).fits at
      (λ t. Fits o.m o.c t → Step o s t (Map at)) (λ j there.
      let p = sent-passage j there g.numbered in
      record {
        fares = map-fares g j p;
        loads = map-loads g j p;
        pending = λ q w.
            let later = map-waits g j p q w.0 in
            inl (later, map-hangs g j p q w.0 later w.1, refl);
        gone = λ q gone. (map-gone g j p q gone, refl);
        holds = λ reads q gone bytes. map-holds g j p q bytes gone;
      }) may next leads fits
  event-step (Serve at) quiet may leads =
      answer-step (serve-answers at (serving-of o.m o.c s next at may leads))
  event-step (Release at) quiet may leads = search (rules, quiet-step, release-leaves)
  event-step (Finish at) quiet may leads =
      answer-step (finish-answers at (finishing-of o.m o.c s next at may leads))
  event-step Control quiet may leads = cc
  event-step Clock quiet may leads =
      quiet-step g next fits Clock (clock-leaves o.m o.c s next may leads) (λ p. refl)
