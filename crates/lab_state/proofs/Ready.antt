-- The events that may come next are those of the script and of the logs, those of the bios, and the
-- clock's: to a bio at most one may come, by its device and how far it has come. The marked bios,
-- in the order of their numbers, are just those to which an event may come.
use Rattle.lab_model.proofs.Common.{rules, ◌≡◌, ℕ, suc, ◌+◌, arith, Bool, cond, List, [], ◌∷◌, ◌++◌}
use Rattle.lab_model.proofs.Common.{Option, Some, None, refl, ap, ◌∙◌, filter, length}
use Rattle.lab_model.proofs.Common.{slice_get, option_and_then, filter-append, cons_option}
use Rattle.lab_model.proofs.Common.{flat_map, range_with_len, Bio, bio_may, bio_maps, bio_serves}
use Rattle.lab_model.proofs.Common.{bio_releases, bio_finishes, option_flatten}
use Rattle.lab_model.proofs.Common.{State, bio_of, zero, ◌<◌, ◌≤◌, add-one, true, false, map}
use Rattle.lab_model.proofs.Common.{length-map, length-range_with_len, slice_get_past, DevNo, Stage}
use Rattle.lab_model.specs.declared.event.Event.{Event}
use Rattle.lab_model.specs.declared.event.Event.TheVariants.{Map, Serve, Release, Finish}
use Rattle.std.specs.List.{filter_map}
use Rattle.lab_state.specs.Places.{Numbered, bio_event, bio_events, ready_event}
use Rattle.lab_state.specs.Places.{numbered_living}
use Rattle.std.proofs.Common.{is_some}
use Rattle.lab_index.specs.Numbers.{Marks, has, members, members_from}
use Rattle.lab_state.specs.Index.{IsMarked}

-- an event before others, if it passes
abbrev cons_if : Bool → Event → List Event → List Event
cons_if passes event events = cond passes (event ∷ events) events

-- at most one event before others
before-others : (event : Option Event) (events : List Event)
    → cons_option event [] ++ events ≡ cons_option event events
before-others event events = search rules

-- events of numbers, at most one of each
pub kept-each : (test : Event → Bool) (events : ℕ → List Event) (one : ℕ → Option Event)
    → ((n : ℕ) → filter test (events n) ≡ cons_option (one n) []) → (numbers : List ℕ)
    → filter test (flat_map events numbers) ≡ filter_map one numbers
kept-each test events one each [] = search rules
kept-each test events one each (n ∷ numbers) =
    search (rules, filter-append, before-others, kept-each test events one each numbers)

-- those of a bio's four events that may come
abbrev four : ℕ → Bool → Bool → Bool → Bool → List Event
four n maps serves releases finishes =
    cons_if maps (Map n) (cons_if serves (Serve n) (cons_if releases (Release n)
    (cons_if finishes (Finish n) [])))

-- so of a number too, where a bio may live
pub of-entry : {S : Type 0} (s : State S) (n : ℕ) (entry : Option Bio)
    → four n (bio_may entry (λ bio. bio_maps s bio.device bio.stage))
    (bio_may entry (λ bio. bio_serves bio.device bio.stage))
    (bio_may entry (λ bio. bio_releases s bio.stage))
    (bio_may entry (λ bio. bio_finishes s n bio.stage))
    ≡ cons_option (option_and_then (λ bio. bio_event s n bio.device bio.stage) entry) []
of-entry s n entry = search rules

-- the event of the bio of a number, if it lives
abbrev pub event_of : {S : Type 0} → State S → ℕ → Option Event
event_of s n = option_and_then (λ bio. bio_event s n bio.device bio.stage) (bio_of s n)

-- events of numbers, at most one of each living bio
of-living : (event : ℕ → Bio → Option Event) (bio_at : ℕ → Option Bio) (first before : ℕ)
    (xs : List (Option Bio)) → first ≡ suc before
    → ((j n : ℕ) → n ≡ first + j → bio_at n ≡ option_flatten (slice_get xs j))
    → filter_map (λ n. option_and_then (event n) (bio_at n)) (range_with_len first (length xs))
    ≡ filter_map (λ (e : Numbered). event e.number e.bio) (numbered_living before xs)
of-living event bio_at first before [] at is = refl
of-living event bio_at first before (None ∷ xs) at is =
    ap (λ bio. cons_option (option_and_then (event first) bio) (filter_map
    (λ n. option_and_then (event n) (bio_at n)) (range_with_len (first + 1) (length xs))))
    (is 0 first (omega arith)) ∙ of-living event bio_at (first + 1) (suc before) xs (omega arith)
    (λ j n next. is (suc j) n (omega arith))
of-living event bio_at first before (Some bio ∷ xs) at is =
    ap (λ found. cons_option (option_and_then (event first) found) (filter_map
    (λ n. option_and_then (event n) (bio_at n)) (range_with_len (first + 1) (length xs))))
    (is 0 first (omega arith)) ∙ ap (cons_option (event first bio))
    (of-living event bio_at (first + 1) (suc before) xs (omega arith)
    (λ j n next. is (suc j) n (omega arith)))
    ∙ ap (λ n. cons_option (event n bio) (filter_map (λ (e : Numbered). event e.number e.bio)
    (numbered_living (suc before) xs))) at

-- so of the bios of a state
pub of-bios : {S : Type 0} (s : State S)
    → filter_map (event_of s) (range_with_len 1 (length s.bios)) ≡ bio_events s
of-bios s = of-living (λ n bio. bio_event s n bio.device bio.stage) (bio_of s) 1 0 s.bios refl
    (λ j n at. let next : n ≡ suc j = omega arith in ap (bio_of s) next)

-- lists of which one has what a function makes of the numbers in the other have it at each place
same-rank : {X : Type 0} (xs : List X) (of : ℕ → Option X) (ns : List ℕ) (rank : ℕ)
    → map (λ x. Some x) xs ≡ map of ns → slice_get xs rank ≡ option_and_then of (slice_get ns rank)
same-rank [] of [] rank same = refl
same-rank (x ∷ xs) of (n ∷ ns) (suc rank) same = same-rank xs of ns rank cc
same-rank xs of ns rank same = search rules

-- and what the function makes of the number at a rank is there
some-rank : {X : Type 0} (xs : List X) (of : ℕ → Option X) (ns : List ℕ) (rank n : ℕ)
    → map (λ x. Some x) xs ≡ map of ns → slice_get ns rank ≡ Some n → is_some (of n) ≡ true
some-rank [] of [] rank n same got = absurd (cc)
some-rank [] of (m ∷ ns) rank n same got = absurd (cc)
some-rank (x ∷ xs) of [] rank n same got = absurd (cc)
some-rank (x ∷ xs) of (m ∷ ns) zero n same got =
    let is : of n ≡ Some x = cc in
    rw is refl
some-rank (x ∷ xs) of (m ∷ ns) (suc rank) n same got = some-rank xs of ns rank n (cc) got

-- where an event may come to a bio, its device and how far it has come tell which
pub told-ready : {S : Type 0} (s : State S) (n : ℕ) (device : DevNo) (stage : Stage)
    → is_some (bio_event s n device stage) ≡ true
    → bio_event s n device stage ≡ Some (ready_event n stage device)
told-ready s n device stage comes = search rules

-- one number more: it is marked just where it has an event, and then its event comes first
one-more : (event : Option Event) (mark : Bool) (of : ℕ → Option Event) (before : ℕ)
    (marks : Marks) (events : List Event) → mark ≡ is_some event → of before ≡ event
    → map (λ e. Some e) events ≡ map of (members_from (suc before) marks)
    → map (λ e. Some e) (cons_option event events) ≡ map of (members_from before (mark ∷ marks))
one-more event mark of before marks events same is others = search rules

-- where just the numbers are marked that have an event, the events are those of the members
of-members : (of : ℕ → Option Event) (before count : ℕ) (marks : Marks) → count ≤ length marks
    → ((n : ℕ) → before + count ≤ n → of (suc n) ≡ None)
    → ((j n : ℕ) → n ≡ before + j → has marks j ≡ is_some (of (suc n)))
    → map (λ e. Some e) (filter_map of (range_with_len (suc before) count))
    ≡ map (λ n. of (suc n)) (members_from before marks)
of-members of before zero [] fits past marked = refl
of-members of before (suc count) [] fits past marked = absurd (omega arith)
of-members of before zero (mark ∷ marks) fits past marked =
    let none = past before (omega arith) in
    one-more None mark (λ n. of (suc n)) before marks []
    (marked 0 before (omega arith) ∙ ap is_some none) none
    (of-members of (suc before) zero marks (omega arith) (λ n far. past n (omega arith))
    (λ j n next. marked (suc j) n (omega arith)))
of-members of before (suc count) (mark ∷ marks) fits past marked =
    one-more (of (suc before)) mark (λ n. of (suc n)) before marks
    (filter_map of (range_with_len (suc before + 1) count)) (marked 0 before (omega arith)) refl
    (rw add-one (of-members of (suc before) count marks (omega arith)
    (λ n far. past n (omega arith)) (λ j n next. marked (suc j) n (omega arith))))

-- no bio has had a number above the last one, so that no event comes to it
pub past-none : {S : Type 0} (s : State S) (number : ℕ) → length s.bios < number
    → event_of s number ≡ None
past-none s zero past = refl
past-none s (suc place) past = rw (slice_get_past s.bios place (omega arith)) refl

module _ {S : Type 0} {s : State S} {marks : Marks} (is : IsMarked s marks) where
  -- the events that may come to the bios are those of the members, whose numbers are one more
  marked-events : map (λ e. Some e) (bio_events s)
      ≡ map (λ place. event_of s (suc place)) (members marks)
  marked-events = rw (← of-bios s) (of-members (event_of s) 0 (length s.bios) marks is.reach
      (search (rules, past-none)) (λ j n next. rw next (search (rules, is.ready (suc j)))))

  -- so there are as many
  pub length_ready : length (members marks) ≡ length (bio_events s)
  length_ready = search (rules, length-map, marked-events)

  -- and each is that of the member at its rank
  pub nth-ready : (rank : ℕ) → slice_get (bio_events s) rank
      ≡ option_and_then (λ place. event_of s (place + 1)) (slice_get (members marks) rank)
  nth-ready rank = search (rules, add-one, same-rank, marked-events)

  -- so one may come to the bio of a member
  pub comes-ready : (rank place : ℕ) → slice_get (members marks) rank ≡ Some place
      → is_some (event_of s (place + 1)) ≡ true
  comes-ready rank place got = rw (add-one place) (some-rank (bio_events s)
      (λ place. event_of s (suc place)) (members marks) rank place marked-events got)

-- a member is below the marks' reach
pub below-reach : (before : ℕ) (marks : Marks) (rank n : ℕ)
    → slice_get (members_from before marks) rank ≡ Some n → n < before + length marks
below-reach before [] rank n got = search rules
below-reach before (true ∷ marks) zero n got = search rules
below-reach before (true ∷ marks) (suc rank) n got =
    search (rules, below-reach (suc before) marks rank n got)
below-reach before (false ∷ marks) rank n got =
    search (rules, below-reach (suc before) marks rank n got)

-- there are no more events than numbers
few-made : (event : ℕ → Option Event) (numbers : List ℕ)
    → length (filter_map event numbers) ≤ length numbers
few-made event [] = search rules
few-made event (n ∷ numbers) = search (rules, few-made event numbers)

-- so none than numbers of bios
pub few-events : {S : Type 0} (s : State S) → length (bio_events s) ≤ length s.bios
few-events s =
    rw (← of-bios s) (omega (
      arith,
      few-made (event_of s) (range_with_len 1 (length s.bios)),
      length-range_with_len 1 (length s.bios),
    ))
