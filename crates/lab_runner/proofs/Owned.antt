-- How many events belong to each worker: no more than there are, and one more for the owner of one
-- event more. A worker's turn, from what the lock kept before it.
use Rattle.lab_model.proofs.Common.{rules, ◌≡◌, ℕ, suc, ◌+◌, ◌<◌, ◌≤◌, ◌≢◌, Bool, true, false, cond}
use Rattle.lab_model.proofs.Common.{List, [], ◌∷◌, ◌++◌, Some, length, get_or, replicate, slice_get}
use Rattle.lab_model.proofs.Common.{slice_set, refl, sym, ap, ◌∙◌, arith, true≢false}
use Rattle.lab_model.proofs.Common.{get_or-replicate, get_or-set_other, length-replicate}
use Rattle.lab_model.proofs.Common.{length-set, slice_get-get_or, get_or_from_slice_get, Meaning}
use Rattle.lab_model.proofs.Common.{After, Next, IsRun, Leads, effect, owner_of, Scenario}
use Rattle.lab_model.proofs.Common.{State, opening, None, drop, take, inr, subst, take-append_seam}
use Rattle.lab_model.proofs.Common.{Lawful}
use Rattle.lab_model.specs.declared.event.Event.{Event}
use Rattle.lab_model.specs.declared.event.Who.{Who}
use Rattle.lab_next.specs.Over.{is_same, is_over}
use Rattle.lab_runner.specs.Counts.{CountsTurns, IsWorker, owned, owned_after, place_of, one_more}
use Rattle.lab_runner.proofs.Workers.{place-inside, place-tells, same-is}
use Rattle.lab_core.specs.Running.{IsRunning}
use Rattle.lab_runner.specs.Shared.{Fires, GivesUp, IsShared, IsTurn, Sharing, next_of}
use Rattle.lab_runner.specs.declared.turn.Turn.TheVariants.{Fired, Idle, Stop}
use Rattle.lab_runner.proofs.Keeps.{counted-shared}

-- an event counts once for its owner, and not for others
abbrev once : Bool → ℕ
once own = cond own 1 0

-- what stands at a place inside, where it was written
written-same : (counts : List ℕ) (place count : ℕ) → place < length counts
    → slice_get (slice_set counts place count) place ≡ Some count
written-same (x ∷ counts) (suc place) count inside = written-same counts place count (omega arith)
written-same counts place count inside = search rules

-- and elsewhere
written-other : (counts : List ℕ) (place other count : ℕ) → other ≢ place → other < length counts
    → slice_get (slice_set counts place count) other ≡ slice_get counts other
written-other counts place other count differ inside =
    slice_get-get_or (slice_set counts place count) other 0
    (omega (arith, length-set counts place count))
    ∙ ap (λ n. Some n) (get_or-set_other counts place other count 0 differ)
    ∙ sym (slice_get-get_or counts other 0 inside)

module _ {S : Type 0} (m : Meaning S) (c : Scenario S) where
  -- one event more counts for its owner where it stands
  owned_after-more : (events : List Event) (s mid : State S) (event : Event) (who : Who)
      → Leads m c s events mid
      → owned_after m c (Next s) who (events ++ event ∷ [])
      ≡ owned_after m c (Next s) who events + once (is_same (owner_of mid event) who)
  owned_after-more [] s mid event who leads = rw leads (omega arith)
  owned_after-more (first ∷ events) s mid event who leads =
      rw leads.2 (omega (arith, owned_after-more events leads.1 mid event who leads.3))

  -- so in a run
  pub owned-more : (events : List Event) (mid : State S) (event : Event) (who : Who)
      → IsRun m c events mid → owned m c who (events ++ event ∷ [])
      ≡ owned m c who events + once (is_same (owner_of mid event) who)
  owned-more events mid event who run = search (rules, owned_after-more)

  module _ (who : Who) where
    -- at most all events belong to a worker
    owned_after-most : (events : List Event) (after : After S)
        → owned_after m c after who events ≤ length events
    owned_after-most (e ∷ events) (Next s) = grind (arith, owned_after-most events (effect m c s e))
    owned_after-most events after = grind arith

    -- so in a run
    pub owned-most : (events : List Event) → owned m c who events ≤ length events
    owned-most events = owned_after-most events (Next (opening c))

  -- so is what is counted for a worker
  pub count-most : (events : List Event) (counts : List ℕ) (who : Who)
      → CountsTurns m c events counts → IsWorker (length c.logs) who
      → get_or counts (place_of (length c.logs) who) 0 ≤ length events
  count-most events counts who counted there = omega (
    arith,
    get_or_from_slice_get counts (place_of (length c.logs) who) (owned m c who events) 0
        (counted.each who there),
    owned-most who events,
  )

  -- before the first event each count is zero
  pub counts-first : CountsTurns m c [] (replicate (length c.logs + 2) 0)
  counts-first = record {
    size = length-replicate {A = ℕ} (length c.logs + 2) 0;
    each = λ who there.
        let inside = place-inside (length c.logs) who there in
        slice_get-get_or (replicate (length c.logs + 2) 0) (place_of (length c.logs) who) 0
        (omega (arith, length-replicate {A = ℕ} (length c.logs + 2) 0)) ∙ ap (λ n. Some n)
        (get_or-replicate (length c.logs + 2) (place_of (length c.logs) who) 0 0 inside);
  }

  module _ (events : List Event) (mid : State S) (event : Event) (who : Who) (counts : List ℕ)
      (run : IsRun m c events mid) (owner : is_same (owner_of mid event) who ≡ true)
      (there : IsWorker (length c.logs) who) (counted : CountsTurns m c events counts) where
    -- the owner's count is written in its place
    written : List ℕ
    written = slice_set counts (place_of (length c.logs) who)
        (get_or counts (place_of (length c.logs) who) 0 + 1)

    -- the place is one of the counts
    inside : place_of (length c.logs) who < length counts
    inside = omega (arith, counted.size, place-inside (length c.logs) who there)

    -- what is written there is what the owner has fired
    written-owned : get_or counts (place_of (length c.logs) who) 0 + 1
        ≡ owned m c who (events ++ event ∷ [])
    written-owned =
        let more = owned-more events mid event who run in
        let one : once (is_same (owner_of mid event) who) ≡ 1 = rw owner refl in
        let was = get_or_from_slice_get counts (place_of (length c.logs) who)
        (owned m c who events) 0 (counted.each who there) in
        omega (arith, more, one, was)

    -- the owner's count
    owner-counted : slice_get written (place_of (length c.logs) who)
        ≡ Some (owned m c who (events ++ event ∷ []))
    unfolding written
    owner-counted = search (rules, written-same, inside, written-owned)

    -- the count of one whom the event doesn't belong to
    other-counted : (other : Who) → IsWorker (length c.logs) other
        → is_same (owner_of mid event) other ≡ false
        → slice_get written (place_of (length c.logs) other)
        ≡ Some (owned m c other (events ++ event ∷ []))
    unfolding written
    other-counted other also differs =
        let apart : place_of (length c.logs) other ≢ place_of (length c.logs) who =
        λ same. true≢false (sym owner ∙ ap (is_same (owner_of mid event))
        (sym (place-tells (length c.logs) other who also there same)) ∙ differs) in
        let none : once (is_same (owner_of mid event) other) ≡ 0 = rw differs refl in
        let kept : owned m c other events ≡ owned m c other (events ++ event ∷ []) =
        omega (arith, none, owned-more events mid event other run) in
        written-other counts (place_of (length c.logs) who) (place_of (length c.logs) other)
        (get_or counts (place_of (length c.logs) who) 0 + 1) apart
        (omega (arith, counted.size, place-inside (length c.logs) other also))
        ∙ counted.each other also ∙ ap (λ n. Some n) kept

    -- so an event that is counted for its owner keeps the counts
    pub counts-more : CountsTurns m c (events ++ event ∷ [])
        (one_more counts (place_of (length c.logs) who))
    unfolding written
    counts-more = search (rules, length-set, same-is, owner-counted, other-counted)

-- a list that is written over all of another stands alone
pub written-all : (len : ℕ) (items written : List ℕ) → length written ≡ len
    → take len (written ++ drop (length written) items) ≡ written
written-all len items written same = rw (← same) (take-append_seam written _)

-- so counts with one more at a place that are written over all of the old ones
pub written-more : (len place : ℕ) (items lent written : List ℕ) → length written ≡ len
    → written ≡ one_more lent place → lent ≡ items
    → take len (written ++ drop (length written) items) ≡ one_more items place
written-more len place items lent written whole more same = search (rules, written-all)

module _ {S : Type 0} (m : Meaning S) (who : Who) (inside old : Sharing S) (same : inside ≡ old)
    (free : inside.stop ≡ false)
    (left : is_over inside.lab.scenario inside.lab.state who ≡ false) where
  -- nothing that belongs to the worker may come
  pub idle-turn : next_of inside.lab who ≡ None → IsTurn m who old Idle old
  idle-turn none = subst (λ before. IsTurn m who before Idle before) same
      (inr (free, (left, none, refl)))

  -- its next event was fired
  pub fired-turn : (new : Sharing S) → Fires m who inside new → IsTurn m who old Fired new
  fired-turn new fires = search rules

  -- memory ran out
  pub stop-turn : (new : Sharing S) → GivesUp who inside new → IsTurn m who old Stop new
  stop-turn new gives = search rules

-- once a worker's event is fired and counted for it, the lock keeps what it kept
pub fired-shared : {S : Type 0} (m : Meaning S) → Lawful m → (c : Scenario S)
    (old new : Sharing S) (who : Who) (event : Event) → IsShared m c old
    → is_same (owner_of old.lab.state event) who ≡ true
    → IsWorker (length old.lab.scenario.logs) who → new.lab.scenario ≡ old.lab.scenario
    → new.lab.history ≡ old.lab.history ++ event ∷ [] → IsRunning m new.lab
    → new.counts ≡ one_more old.counts (place_of (length old.lab.scenario.logs) who)
    → IsShared m c new
fired-shared m lawful c old new who event shared owner there scenario history running counts =
    search (rules, counts-more, counted-shared)
