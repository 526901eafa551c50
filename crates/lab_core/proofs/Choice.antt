-- What a run picks among: the first of the events that may come, without the clock's, which is the
-- last, where a prompt run can go on by another.
use Rattle.lab_model.proofs.Common.{rules, ◌≡◌, ℕ, Bool, true, not, List, [], ◌∷◌, ◌++◌, length}
use Rattle.lab_model.proofs.Common.{map, refl, sym, ap, ◌∙◌, arith, filter, ◌-◌, ◌<◌, Some}
use Rattle.lab_model.proofs.Common.{slice_get, length-append, ◌&&◌, if◌then◌else◌, nat_lt}
use Rattle.lab_model.proofs.Common.{range_with_len, append-nil, filter-append, is_enabled}
use Rattle.lab_model.proofs.Common.{enabled_events, events_of, is_clock, Scenario, State}
use Rattle.lab_model.proofs.Common.{slice_get_within, slice_get-front}
use Rattle.lab_model.specs.declared.event.Event.{Event}
use Rattle.lab_model.specs.declared.event.Event.TheVariants.{Line, Control, Clock}
use Rattle.std.proofs.Common.{flat_map}
use Rattle.law_never_wrong.specs.NeverStuck.{SomeMay}
use Rattle.lab_core.specs.Runs.{choice, or_else}
use Rattle.lab_core.proofs.Enabled.{listed-may, some-listed}

-- two filters may change places
filters-swap : {X : Type 0} (keep test : X → Bool) (xs : List X)
    → filter keep (filter test xs) ≡ filter test (filter keep xs)
filters-swap keep test [] = refl
filters-swap keep test (x ∷ xs) = grind (arith, filters-swap keep test xs)

-- an event that isn't the clock's
abbrev pub but_clock : Event → Bool
but_clock event = not (is_clock event)

-- no log's event is the clock's
lines-kept : (logs : List ℕ)
    → filter but_clock (map (λ log. Line log) logs) ≡ map (λ log. Line log) logs
lines-kept [] = refl
lines-kept (log ∷ logs) = ap (λ events. Line log ∷ events) (lines-kept logs)

-- nor is any bio's
bios-kept : (numbers : List ℕ)
    → filter but_clock (flat_map events_of numbers) ≡ flat_map events_of numbers
bios-kept [] = refl
bios-kept (number ∷ numbers) = ap (λ events. events_of number ++ events) (bios-kept numbers)

module _ {S : Type 0} (c : Scenario S) (s : State S) where
  -- the written order before the clock's event
  abbrev front : List Event
  front = Control ∷ map (λ log. Line log) (range_with_len 1 (length c.logs))
      ++ flat_map events_of (range_with_len 1 (length s.bios))

  -- the clock's event, where it may come
  abbrev pub clock_event : List Event
  clock_event = filter (is_enabled c s) (Clock ∷ [])

  -- none before is the clock's
  front-kept : filter but_clock front ≡ front
  front-kept = search (rules, filter-append, lines-kept, bios-kept)

  -- so those that are not the clock's are those before it
  but_clock-front : filter but_clock (enabled_events c s) ≡ filter (is_enabled c s) front
  but_clock-front = filters-swap but_clock (is_enabled c s) (front ++ Clock ∷ [])
      ∙ ap (filter (is_enabled c s)) (filter-append but_clock front (Clock ∷ [])
      ∙ append-nil (filter but_clock front) ∙ front-kept)

  -- and the clock's is the last that may come
  pub clock-last : enabled_events c s ≡ filter but_clock (enabled_events c s) ++ clock_event
  clock-last = search (rules, filter-append, but_clock-front)

-- an item of a list that is the first of two stands at the same place in both together
first-place : {X : Type 0} (xs ys : List X) (place : ℕ) → place < length xs
    → slice_get xs place ≡ slice_get (xs ++ ys) place
first-place xs ys place within = sym (slice_get-front xs ys place within)

-- the first events, or else all, stand at the same places among all
pub else-place : (xs ys : List Event) (place : ℕ) → place < length (or_else xs (xs ++ ys))
    → slice_get (or_else xs (xs ++ ys)) place ≡ slice_get (xs ++ ys) place
else-place xs ys place within = search (rules, first-place)

module _ {S : Type 0} (c : Scenario S) (s : State S) where
  -- a prompt run's choice is all that may come, or one fewer where the clock's event is one of
  -- several
  pub choice-count : length (choice c true s)
      ≡ (if nat_lt 1 (length (enabled_events c s)) && is_enabled c s Clock
      then length (enabled_events c s) - 1 else length (enabled_events c s))
  choice-count = search (rules, clock-last, length-append)

  -- what is picked is among all that may come
  pub choice-listed : (prompt : Bool) (place : ℕ) (event : Event)
      → slice_get (choice c prompt s) place ≡ Some event
      → slice_get (enabled_events c s) place ≡ Some event
  choice-listed prompt place event at = search (rules, clock-last, else-place, slice_get_within)

  -- what is picked may come
  pub chosen-may : (prompt : Bool) (place : ℕ) (event : Event)
      → slice_get (choice c prompt s) place ≡ Some event → is_enabled c s event ≡ true
  chosen-may prompt place event at = search (rules, listed-may, choice-listed)

  -- and where some event may come, some is there to be picked
  pub some-chosen : (prompt : Bool) → SomeMay c s → 0 < length (choice c prompt s)
  some-chosen prompt some = search (rules, some-listed c s some)
