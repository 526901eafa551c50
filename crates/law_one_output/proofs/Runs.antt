-- Events lead to one state and stop at one place, and words pick one run; each seed picks a
-- complete run, and each list of events is a complete run, ends early or stops.
-- Names: FACT-one for a fact that holds of one thing only, FACT-never-OTHER for facts that exclude
-- one another.
use Rattle.lab_model.proofs.Common.{rules, ◌≡◌, ◌∙◌, ℕ, zero, suc, true, false, List, [], ◌∷◌, Some}
use Rattle.lab_model.proofs.Common.{take, slice_get, ap, refl, sym, ◌⊎◌, ◌+◌, ◌≤◌, ◌<◌, ◌%◌, inl}
use Rattle.lab_model.proofs.Common.{inr, Bool, ◌++◌, length, length-append, get_or, arith}
use Rattle.lab_model.proofs.Common.{slice_get-get_or, cases_Bool, Meaning, Next, IsComplete, IsRun}
use Rattle.lab_model.proofs.Common.{Leads, effect, is_done, is_enabled, Scenario, State, opening}
use Rattle.lab_model.specs.declared.event.Event.{Event}
use Rattle.lab_model.specs.declared.event.Event.TheVariants.{Control}
use Rattle.rand_pcg.specs.Lcg.{Lcg}
use Rattle.law_headline.specs.Headline.{RunsWell}
use Rattle.lab_core.specs.Audit.{EndsEarly, StopsAt}
use Rattle.lab_core.specs.Runs.{ChoosesFrom, IsPickedFrom, choice}
use Rattle.lab_core.specs.Words.{drawn, first_words}
use Rattle.lab_core.proofs.Choice.{chosen-may, some-chosen}
use Rattle.lab_core.proofs.Seeded.{leads-more}

module _ {S : Type 0} (m : Meaning S) (c : Scenario S) where
  -- what events lead to is one state
  pub leads-one : (events : List Event) (s one other : State S) → Leads m c s events one
      → Leads m c s events other → one ≡ other
  leads-one [] s one other first second = first ∙ sym second
  leads-one (event ∷ events) s one other first second =
      let same : first.1 ≡ second.1 = cc in
      leads-one events second.1 one other (rw same at first.3) second.3

  -- from a state, the event at a place is the first that may not come
  abbrev pub Stops : State S → List Event → ℕ → Type 0
  Stops s [] place = ⊥
  Stops s (event ∷ events) zero = is_enabled c s event ≡ false
  Stops s (event ∷ events) (suc place) = (is_enabled c s event ≡ true) × (next : State S)
      × (effect m c s event ≡ Next next) × Stops next events place

  -- events that lead to a state stop nowhere
  stops-never-leads : (events : List Event) (s end : State S) (place : ℕ) → Stops s events place
      → Leads m c s events end → ⊥
  stops-never-leads [] s end place stops leads = stops
  stops-never-leads (event ∷ events) s end zero stops leads = cc
  stops-never-leads (event ∷ events) s end (suc place) stops leads =
      let same : stops.1 ≡ leads.1 = cc in
      stops-never-leads events leads.1 end place (rw same at stops.3) leads.3

  -- where they stop is one place
  stops-one : (events : List Event) (s : State S) (place other : ℕ) → Stops s events place
      → Stops s events other → place ≡ other
  stops-one [] s place other first second = absurd first
  stops-one (event ∷ events) s (suc place) (suc other) first second =
      let same : first.1 ≡ second.1 = cc in
      ap suc (stops-one events second.1 place other (rw same at first.3) second.3)
  stops-one (event ∷ events) s zero zero first second = refl
  stops-one (event ∷ events) s place other first second = cc

  -- the events before a place lead to a state after which the one there may not come
  stops-from : (events : List Event) (s state : State S) (place : ℕ) (event : Event)
      → slice_get events place ≡ Some event → Leads m c s (take place events) state
      → is_enabled c state event ≡ false → Stops s events place
  stops-from [] s state place event there leads may_not = cc
  stops-from (own ∷ events) s state zero event there leads may_not = cc
  stops-from (own ∷ events) s state (suc place) event there leads may_not =
      (leads.0, leads.1, leads.2, stops-from events leads.1 state place event there leads.3 may_not)

  -- and back, so that an audit tells of events that stop
  stops-back : (events : List Event) (s : State S) (place : ℕ) → Stops s events place
      → (event : Event) × (slice_get events place ≡ Some event) × (state : State S)
      × Leads m c s (take place events) state × (is_enabled c state event ≡ false)
  stops-back [] s place stops = search rules
  stops-back (event ∷ events) s zero stops = search rules
  stops-back (event ∷ events) s (suc place) stops =
      search (rules, stops-back events stops.1 place stops.3)

  -- an audit tells of events that stop
  pub stops-at : (events : List Event) (place : ℕ) → Stops (opening c) events place
      → StopsAt m c events place
  stops-at events place stops = stops-back events (opening c) place stops

  -- and what it tells of does stop
  at-stops : (events : List Event) (place : ℕ) → StopsAt m c events place
      → Stops (opening c) events place
  at-stops events place stops =
      stops-from events (opening c) stops.2 place stops.0 stops.1 stops.3 stops.4

  -- an audit tells one place
  pub place-one : (events : List Event) (place other : ℕ) → StopsAt m c events place
      → StopsAt m c events other → place ≡ other
  place-one events place other first second = stops-one events (opening c) place other
      (at-stops events place first) (at-stops events other second)

  -- and none of a run
  pub stops-never-runs : (events : List Event) (end : State S) (place : ℕ)
      → StopsAt m c events place → IsRun m c events end → ⊥
  stops-never-runs events end place stops run =
      stops-never-leads events (opening c) end place (at-stops events place stops) run

  -- a complete run does not end early
  pub complete-never-early : (events : List Event) (end : State S) → IsComplete m c events end
      → EndsEarly m c events → ⊥
  complete-never-early events end complete early = search (rules, leads-one)

-- runs of a scenario have so many events at most
abbrev pub Ends : {S : Type 0} → Meaning S → Scenario S → ℕ → Type 0
Ends {S} m c most = (events : List Event) (s : State S) → IsRun m c events s → length events ≤ most

-- the words of a generator pick a complete run from a state on, promptly or not
pub record PicksRun {S : Type 0} (m : Meaning S) (c : Scenario S) (prompt : Bool) (s : State S)
    (generator : Lcg) : Type 0 where
  pub events : List Event
  pub end : State S
  pub picks : ChoosesFrom m c prompt s (first_words generator (length events)) events end
  pub done : is_done c end ≡ true

-- events lead on to a state, or stop where one may not come
abbrev pub Goes : {S : Type 0} → Meaning S → Scenario S → State S → List Event → Type 0
Goes {S} m c s events = ((end : State S) × Leads m c s events end)
    ⊎ ((place : ℕ) × Stops m c s events place)

module _ {S : Type 0} (m : Meaning S) (c : Scenario S) (well : RunsWell m c) (prompt : Bool) where
  -- an event that the next word picks, and the state after it
  record PicksNext (s : State S) (word : ℕ) : Type 0 where
    event : Event
    picked : IsPickedFrom c prompt s word event
    may : is_enabled c s event ≡ true
    next : State S
    goes : effect m c s event ≡ Next next

  -- each word picks one unless all is done
  picks-next : (before : List Event) (s : State S) (word : ℕ) → IsRun m c before s
      → is_done c s ≡ false → PicksNext s word
  picks-next before s word run rest =
      let listed = choice c prompt s in
      let some = some-chosen c s prompt (well.never_stuck before s run rest) in
      let place = word % length listed in
      let event = get_or listed place Control in
      let within : place < length listed = omega (arith, some) in
      let there = slice_get-get_or listed place Control within in
      let may = chosen-may c s prompt place event there in
      let next = well.never_wrong before s run event may in
      record { event = event; picked = there; may = may; next = next.0; goes = next.1 }

  -- so a complete run is picked from each state of a run on
  pub picks-run : (most : ℕ) → Ends m c most → (left : ℕ) (before : List Event) (s : State S)
      (generator : Lcg) → IsRun m c before s → most < length before + left
      → PicksRun m c prompt s generator
  unfolding first_words
  picks-run most ends zero before s generator run enough =
      absurd (omega (arith, enough, ends before s run))
  picks-run most ends (suc left) before s generator run enough =
      elim (cases_Bool (is_done c s)) [
        | inl is ↦ record { events = []; end = s; picks = refl; done = is }
        | inr is ↦
            let next = picks-next before s (drawn generator).0 run is in
            let rest = picks-run most ends left (before ++ next.event ∷ []) next.next
            (drawn generator).1 (leads-more m c before (opening c) s next.next next.event run
            next.may next.goes) (omega (arith, enough, length-append before (next.event ∷ []))) in
            record {
              events = next.event ∷ rest.events;
              end = rest.end;
              picks = (next.picked, next.next, next.goes, rest.picks);
              done = rest.done;
            }
      ]

module _ {S : Type 0} (m : Meaning S) (c : Scenario S) (well : RunsWell m c) where
  -- from each state of a run on events lead to a state or stop
  pub goes-on : (events before : List Event) (s : State S) → IsRun m c before s → Goes m c s events
  goes-on [] before s run = inl (s, refl)
  goes-on (event ∷ events) before s run = elim (cases_Bool (is_enabled c s event)) [
    | inl may ↦
        let next = well.never_wrong before s run event may in
        elim (goes-on events (before ++ event ∷ []) next.0
        (leads-more m c before (opening c) s next.0 event run may next.1)) [
          | inl leads ↦ inl (leads.0, (may, next.0, next.1, leads.1))
          | inr stops ↦ inr (suc stops.0, (may, next.0, next.1, stops.1))
        ]
    | inr may_not ↦ inr (zero, may_not)
  ]
