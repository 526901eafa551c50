-- One event more: a run, a run by first events and a run by a seed go on by one. The events that
-- the words of a seed pick, promptly or not, are a run, and one run only. Names: FACT-leads for
-- what leads on, FACT-once for what is one only. A laboratory that goes on by one event more, the
-- first that may come or one that a seed's word picks, promptly or not.
use Rattle.lab_model.proofs.Common.{rules, ◌≡◌, ℕ, zero, suc, ◌+◌, ◌%◌, Bool, true, List, [], ◌∷◌}
use Rattle.lab_model.proofs.Common.{◌++◌, Some, length, slice_get, refl, subst, arith, Meaning}
use Rattle.lab_model.proofs.Common.{Next, Leads, effect, is_enabled, enabled_events, Scenario}
use Rattle.lab_model.proofs.Common.{State, ◌∙◌, false, true≢false, ap₂, sym, IsComplete, IsRun}
use Rattle.lab_model.proofs.Common.{is_done, opening, ap, append_assoc, length-append}
use Rattle.lab_model.specs.declared.event.Event.{Event}
use Rattle.rand_pcg.specs.Lcg.{Lcg}
use Rattle.lab_core.specs.Runs.{ChoosesFrom, Follows, IsPickedFrom, GoesOn, IsDriven}
use Rattle.lab_core.specs.Words.{drawn, first_words}
use Rattle.lab_core.proofs.Choice.{chosen-may}
use Rattle.lab_core.specs.Running.{Running}

module _ {S : Type 0} (m : Meaning S) (c : Scenario S) where
  -- an event that may come lengthens a run
  pub leads-more : (events : List Event) (s mid next : State S) (event : Event)
      → Leads m c s events mid → is_enabled c mid event ≡ true → effect m c mid event ≡ Next next
      → Leads m c s (events ++ event ∷ []) next
  leads-more [] s mid next event leads may goes = search rules
  leads-more (first ∷ events) s mid next event leads may goes =
      search (rules, leads-more events leads.1 mid next event leads.3 may goes)

  -- the first that may come lengthens a run by first events
  pub follows-more : (events : List Event) (s mid next : State S) (event : Event)
      → Follows m c s events mid → slice_get (enabled_events c mid) 0 ≡ Some event
      → effect m c mid event ≡ Next next → Follows m c s (events ++ event ∷ []) next
  follows-more [] s mid next event leads first goes =
      let place : 0 % length (enabled_events c s) ≡ 0 = omega arith in (
        rw place (subst (λ t. slice_get (enabled_events c t) 0 ≡ Some event) leads first),
        next,
        rw leads at goes,
        refl,
      )
  follows-more (before ∷ events) s mid next event leads first goes =
      (leads.0, leads.1, leads.2, follows-more events leads.1 mid next event leads.3 first goes)

-- the generator after so many words
unfoldable pub after_words : Lcg → ℕ → Lcg
after_words generator zero = generator
after_words generator (suc count) = after_words (drawn generator).1 count

-- one word more
pub after_words-more : (generator : Lcg) (count : ℕ)
    → after_words generator (count + 1) ≡ (drawn (after_words generator count)).1
unfolding after_words
after_words-more generator zero = search rules
after_words-more generator (suc count) = search (rules, after_words-more (drawn generator).1 count)

module _ {S : Type 0} (m : Meaning S) (c : Scenario S) where
  -- the event that the next word picks lengthens a run by a seed
  pub chooses-more : (prompt : Bool) (events : List Event) (generator : Lcg) (s mid next : State S)
      (event : Event)
      → ChoosesFrom m c prompt s (first_words generator (length events)) events mid
      → IsPickedFrom c prompt mid (drawn (after_words generator (length events))).0 event
      → effect m c mid event ≡ Next next
      → ChoosesFrom m c prompt s (first_words generator (length (events ++ event ∷ [])))
      (events ++ event ∷ []) next
  unfolding after_words first_words
  chooses-more prompt [] generator s mid next event leads picked goes =
      (rw leads at picked, next, rw leads at goes, refl)
  chooses-more prompt (before ∷ events) generator s mid next event leads picked goes = (
    leads.0,
    leads.1,
    leads.2,
    chooses-more prompt events (drawn generator).1 leads.1 mid next event leads.3 picked goes,
  )

-- once all is done in a run, no event may come
abbrev pub Rests : {S : Type 0} → Meaning S → Scenario S → Type 0
Rests {S} m c = (events : List Event) (s : State S) → IsComplete m c events s → (event : Event)
    → is_enabled c s event ≡ false

module _ {S : Type 0} (m : Meaning S) (c : Scenario S) where
  -- an event that a word picks may come
  pub picked-may : (prompt : Bool) (s : State S) (word : ℕ) (event : Event)
      → IsPickedFrom c prompt s word event → is_enabled c s event ≡ true
  picked-may prompt s word event picked = search (rules, chosen-may)

  -- events that words pick lead on
  pub chosen-leads : (prompt : Bool) (words : List ℕ) (events : List Event) (s end : State S)
      → ChoosesFrom m c prompt s words events end → Leads m c s events end
  chosen-leads prompt words [] s end chosen = search rules
  chosen-leads prompt [] (event ∷ events) s end chosen = search rules
  chosen-leads prompt (word ∷ words) (event ∷ events) s end chosen =
      search (rules, picked-may, chosen-leads prompt words events chosen.1 end chosen.3)

module _ {S : Type 0} (m : Meaning S) (c : Scenario S) (rests : Rests m c) where
  -- no event is picked where a run is complete
  done-never-picks : (prompt : Bool) (before : List Event) (s end : State S) (word : ℕ)
      (event : Event) → IsRun m c before s → end ≡ s → is_done c end ≡ true
      → IsPickedFrom c prompt s word event → ⊥
  done-never-picks prompt before s end word event run ends done picked =
      true≢false (sym (picked-may m c prompt s word event picked)
      ∙ rests before s (run, rw ends at done) event)

  -- a word picks one event, which leads to one state
  picked-once : (prompt : Bool) (s one other : State S) (word : ℕ) (event another : Event)
      → IsPickedFrom c prompt s word event → IsPickedFrom c prompt s word another
      → effect m c s event ≡ Next one → effect m c s another ≡ Next other
      → (event ≡ another) × (one ≡ other)
  picked-once prompt s one other word event another picked picks goes leads = search rules

  -- the events that words pick until all is done, and the state after them, are one
  pub chosen-once : (prompt : Bool) (events others : List Event) (generator : Lcg)
      (before : List Event) (s end last : State S) → IsRun m c before s
      → ChoosesFrom m c prompt s (first_words generator (length events)) events end
      → ChoosesFrom m c prompt s (first_words generator (length others)) others last
      → is_done c end ≡ true → is_done c last ≡ true → (events ≡ others) × (end ≡ last)
  unfolding first_words
  chosen-once prompt [] [] generator before s end last run first second done over =
      (refl, first ∙ sym second)
  chosen-once prompt [] (other ∷ others) generator before s end last run first second done over =
      absurd (done-never-picks prompt before s end (drawn generator).0 other run first done
      second.0)
  chosen-once prompt (event ∷ events) [] generator before s end last run first second done over =
      absurd (done-never-picks prompt before s last (drawn generator).0 event run second over
      first.0)
  chosen-once prompt (event ∷ events) (other ∷ others) generator before s end last run first
      second done over =
      let word = (drawn generator).0 in
      let same = picked-once prompt s first.1 second.1 word event other first.0 second.0 first.2
      second.2 in
      let longer = leads-more m c before (opening c) s first.1 event run
      (picked-may m c prompt s word event first.0) first.2 in
      let rest = chosen-once prompt events others (drawn generator).1 (before ++ event ∷ [])
      first.1 end last longer first.3 (rw (← same.1) at second.3) done over in
      (ap₂ (λ e es. e ∷ es) same.0 rest.0, rest.1)

-- before the first event
pub driven-none : {S : Type 0} (m : Meaning S) (lab : Running S) → IsDriven m lab lab
driven-none m lab = record { events = []; goes = search rules; follows = refl }

-- the first event that may come drives it on
pub driven-more : {S : Type 0} (m : Meaning S) (old mid new : Running S) (event : Event)
    → IsDriven m old mid → slice_get (enabled_events mid.scenario mid.state) 0 ≡ Some event
    → effect m mid.scenario mid.state event ≡ Next new.state
    → new.history ≡ mid.history ++ event ∷ [] → new.scenario ≡ mid.scenario
    → new.budget ≡ mid.budget → IsDriven m old new
driven-more m old mid new event driven first effect_is history scenario budget = record {
  events = driven.events ++ event ∷ [];
  goes = search (rules, append_assoc, driven.goes);
  follows = follows-more m old.scenario driven.events old.state mid.state new.state event
      driven.follows
      (subst (λ c. slice_get (enabled_events c mid.state) 0 ≡ Some event) driven.goes.scenario
      first)
      (rw driven.goes.scenario at effect_is);
}

-- further events are those that a generator's words picked, and the generator has come as far
pub record PacedSoFar {S : Type 0} (m : Meaning S) (prompt : Bool) (first : Lcg)
    (old new : Running S) (generator : Lcg) : Type 0 where
  pub events : List Event
  pub goes : GoesOn old events new
  pub chosen : ChoosesFrom m old.scenario prompt old.state (first_words first (length events))
      events new.state
  pub comes : generator ≡ after_words first (length events)

-- before the first event
pub paced-none : {S : Type 0} (m : Meaning S) (prompt : Bool) (lab : Running S)
    (first generator : Lcg) → generator ≡ first → PacedSoFar m prompt first lab lab generator
unfolding after_words
paced-none m prompt lab first generator same = search rules

-- the event that the next word picks goes on
pub paced-more : {S : Type 0} (m : Meaning S) (prompt : Bool) (first : Lcg)
    (old mid new : Running S) (generator after : Lcg) (word : ℕ) (event : Event)
    → PacedSoFar m prompt first old mid generator → (word, after) ≡ drawn generator
    → IsPickedFrom mid.scenario prompt mid.state word event
    → effect m mid.scenario mid.state event ≡ Next new.state
    → new.history ≡ mid.history ++ event ∷ [] → new.scenario ≡ mid.scenario
    → new.budget ≡ mid.budget → PacedSoFar m prompt first old new after
paced-more m prompt first old mid new generator after word event paced draws picked effect_is
    history scenario budget =
    let count = length paced.events in
    let word_is : word ≡ (drawn (after_words first count)).0 =
    ap (λ p. p.0) draws ∙ ap (λ g. (drawn g).0) paced.comes in
    let longer : count + 1 ≡ length (paced.events ++ event ∷ []) =
    sym (length-append paced.events (event ∷ [])) in
    record {
      events = paced.events ++ event ∷ [];
      goes = search (rules, append_assoc, paced.goes);
      chosen = chooses-more m old.scenario prompt paced.events first old.state mid.state new.state
          event paced.chosen
          (rw (← word_is, ← paced.goes.scenario) picked) (rw paced.goes.scenario at effect_is);
      comes = ap (λ p. p.1) draws ∙ ap (λ g. (drawn g).1) paced.comes
          ∙ sym (after_words-more first count) ∙ ap (after_words first) longer;
    }
