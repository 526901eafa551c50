-- What an operation on such a way has moved: at first it carries each of its places, and what comes
-- of these when it is answered is what it has moved.
use Rattle.lab_model.proofs.Common.{rules, ◌++◌, ◌<◌, [], ap, arith, Bool, false, inl, le_refl}
use Rattle.lab_model.proofs.Common.{length, List, ℕ, None, refl, Some, subst, sym, true, true≢false}
use Rattle.lab_model.proofs.Common.{◌∙◌, ◌∷◌, ◌≡◌, ◌≢◌, Bio, bio_of, DevNo, Fine, Flush, Kind}
use Rattle.lab_model.proofs.Common.{Lawful, Meaning, Read, Scenario, Sectors, slice_get_within}
use Rattle.lab_model.proofs.Common.{length-replicate, Some-holds, State, Write, nat_tests}
use Rattle.law_headline.specs.Routes.{OnItsWay}
use Rattle.law_sectors_touched.specs.AllRoutes.{IsOnWay}
use Rattle.law_sectors_touched.proofs.Leaving.{Made, made-logs}
use Rattle.law_sectors_touched.proofs.Operations.{begun-alone, begun-fits, begun-made, begun-run}
use Rattle.law_sectors_touched.proofs.Operations.{begun-travel}
use Rattle.law_bytes_carried.proofs.Words.{descends, Event, is_flying, Line}
use Rattle.law_bytes_carried.specs.Carried.{CarriesItsBytes, HasMoved, ServedOnce, stands_for}
use Rattle.law_bytes_carried.specs.Plain.{WayIsPlain}
use Rattle.law_bytes_carried.proofs.Loads.{AllLoad}
use Rattle.law_bytes_carried.proofs.Outcomes.{events-outcome, Fates, Loaded, Outcome}
use Rattle.law_bytes_carried.proofs.Places.{itself-descends, stands-itself}
use Rattle.law_bytes_carried.proofs.Seats.{Course, Waits}
use Rattle.law_bytes_carried.proofs.Served.{moved_of}

-- an operation that isn't a flush moves as many sectors as it has
pub moved-size : (kind : Kind) (given : Sectors) (bio : Bio) → kind ≢ Flush → (kind ≡ Read
    → length given ≡ bio.span.len) → (kind ≡ Write → length bio.sectors ≡ bio.span.len)
    → length (moved_of kind given bio) ≡ bio.span.len
moved-size kind given bio sized reads fills = search (rules, length-replicate)

module _ {S : Type 0} (m : Meaning S) (lawful : Lawful m) (c : Scenario S) (fine : Fine m c)
    (log : ℕ) (before : List Event) (s begun : State S) (bio : Bio) (events : List Event)
    (end : State S) (trip : OnItsWay m c log before s begun bio events end)
    (way : DevNo → ℕ → Bool) (plain : WayIsPlain m begun bio.kind way) (on : IsOnWay way bio) where
  -- its number
  abbrev first : ℕ
  first = length begun.bios

  -- what stays the same while it is under way
  abbrev course : Course S
  course = record { m = m; c = c; begun = begun; op = bio; first = first; way = way }

  -- the log has made it
  made : Made log bio
  made = begun-made lawful fine trip

  -- no other bio descends from it
  alone : (number : ℕ) (other : Bio) → bio_of begun number ≡ Some other
      → descends begun first number ≡ true → (number ≡ first) × (other ≡ bio)
  alone = begun-alone lawful fine trip

  -- it isn't in flight
  begun-rests : (number : ℕ) (other : Bio) → bio_of begun number ≡ Some other
      → descends begun first number ≡ true → is_flying other.stage ≡ false
  begun-rests number other lives comes = search (rules, is_flying, alone, made)

  -- nothing is recorded yet
  begun-loads : AllLoad bio first begun
  begun-loads n other lives comes =
      search (rules, begun-rests n other lives comes, alone n other lives comes, made-logs made)

  -- it is under way
  begun-loaded : Loaded course log begun
  begun-loaded = record {
    line = made.line;
    action = made.action;
    own = made.from;
    going = record {
      lawful = lawful;
      fine = fine;
      past = before ++ Line log ∷ [];
      run = begun-run lawful fine trip;
      sized = trip.is_sized;
      numbered = le_refl first;
      plain = plain;
      travel = begun-travel lawful fine trip way on;
      image = refl;
      fares = grind (arith, nat_tests, alone, made-logs, made, stands-itself);
      loads = begun-loads;
    };
    bio = bio;
    lives = trip.made;
    span = refl;
    parent = refl;
  }

  -- it carries each of its places itself
  begun-waits : (place : ℕ) → place < bio.span.len → Waits begun first place
  begun-waits place less = record {
    number = first;
    i = place;
    bio = bio;
    seat = record {
      lives = trip.made;
      comes = itself-descends begun first;
      within = less;
      stands = stands-itself begun first place;
    };
    rests = ap is_flying made.enters;
    only = λ n k other seat rests.
        let is = (alone n other seat.lives seat.comes).0 in (
          is,
          sym (stands-itself begun first k) ∙ ap (λ q. stands_for begun first q k) (sym is)
              ∙ seat.stands,
        );
  }

  -- all places are still to be served
  abbrev begun-fates : Fates course begun
  begun-fates p less = inl (
    begun-waits p less,
    λ n k other seat flies.
        absurd (true≢false (sym flies ∙ begun-rests n other seat.lives seat.comes)),
  )

  module _ (gone : bio_of end first ≡ None) where
    -- what comes of it
    outcome : Outcome course log begun events end begun-fates
    outcome = search (rules, events-outcome, begun-loaded)

    -- each place was served with the bytes that it has moved
    has-moved : HasMoved m c log begun bio events end
    has-moved =
        let moved = moved_of bio.kind outcome.given bio in
        let size = moved-size bio.kind outcome.given bio trip.is_sized outcome.size
        ((begun-fits lawful fine trip).bios first bio trip.made).fills in
        record {
          moved = moved;
          size = size;
          each = λ p bytes there.
              let less : p < bio.span.len =
              omega (arith, slice_get_within moved p bytes there, size) in
              let own = outcome.each p less in
              subst (ServedOnce m c begun bio events p) (Some-holds (sym own.1 ∙ there))
              (record { sector = own.2.sector; is_route = own.2.is_route; once = own.2.once });
          writes = λ writes. ap (λ k. moved_of k outcome.given bio) writes;
          trims = λ trims. ap (λ k. moved_of k outcome.given bio) trims;
          answer = outcome.answer;
          answers = outcome.answers;
          is_own = outcome.is_own;
          tells = outcome.tells ∙ (search rules);
        }

-- so each such operation has moved its sectors
pub operations-move : {S : Type 0} (m : Meaning S) → Lawful m → CarriesItsBytes m
operations-move m lawful c fine log before s begun bio events end trip way plain on gone =
    has-moved m lawful c fine log before s begun bio events end trip way plain on gone
