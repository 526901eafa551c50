-- How a laboratory goes on: by the event that a word picks where it stands, among all that may come
-- or the clock's only where no other may; words that are all 0 pick the first each time (this
-- project's own).
use Rattle.std.specs.Prelude.{◌≡◌, ℕ, ◌%◌, Bool, true, false, not, List, [], ◌∷◌, ◌++◌, Some, filter, length, replicate, slice_get}
use Rattle.lab_target.specs.Meaning.{Meaning}
use Rattle.lab_model.specs.declared.event.Event.{Event}
use Rattle.lab_model.specs.After.{Next}
use Rattle.lab_model.specs.Effect.{Leads, effect}
use Rattle.lab_model.specs.Order.{enabled_events}
use Rattle.lab_model.specs.Potential.{is_clock}
use Rattle.lab_model.specs.Scenario.{Scenario}
use Rattle.lab_model.specs.State.{State}
use Rattle.lab_core.specs.Running.{Running}
use Rattle.lab_core.specs.Words.{first_words, seeded}

-- the first events, or the others where there are none (this project's own)
abbrev pub or_else : List Event → List Event → List Event
or_else [] others = others
or_else (event ∷ events) others = event ∷ events

module _ {S : Type 0} (c : Scenario S) where
  -- the events that a run picks among: all that may come; in a prompt run those that are not the
  -- clock's, and all, which is the clock's at most, where there are none (this project's own)
  abbrev pub choice : Bool → State S → List Event
  choice false s = enabled_events c s
  choice true s =
      or_else (filter (λ event. not (is_clock event)) (enabled_events c s)) (enabled_events c s)

  -- the event that a word picks among those of a run's choice (this project's own)
  abbrev pub IsPickedFrom : Bool → State S → ℕ → Event → Type 0
  IsPickedFrom prompt s word event =
      slice_get (choice prompt s) (word % length (choice prompt s)) ≡ Some event

module _ {S : Type 0} (m : Meaning S) (c : Scenario S) (prompt : Bool) where
  -- events lead from a state to another, each the one that the next word picks among the choice
  -- where it stands (this project's own)
  abbrev pub ChoosesFrom : State S → List ℕ → List Event → State S → Type 0
  ChoosesFrom s words [] end = end ≡ s
  ChoosesFrom s [] (event ∷ events) end = ⊥
  ChoosesFrom s (word ∷ words) (event ∷ events) end = IsPickedFrom c prompt s word event
      × (next : State S) × (effect m c s event ≡ Next next) × ChoosesFrom next words events end

-- events lead from a state to another, each the one that the next word picks among all that may
-- come where it stands
abbrev pub Chooses : {S : Type 0} → Meaning S → Scenario S → State S → List ℕ → List Event
    → State S → Type 0
Chooses m c s words events end = ChoosesFrom m c false s words events end

-- events lead from a state to another, each the first in the written order that may come where it
-- stands: the one that the word 0 picks, since 0 modulo any number is 0
abbrev pub Follows : {S : Type 0} → Meaning S → Scenario S → State S → List Event → State S → Type 0
Follows m c s events end = Chooses m c s (replicate (length events) 0) events end

-- a laboratory stands where these further events lead: its scenario and budget are as they were
pub record GoesOn {S : Type 0} (old : Running S) (events : List Event) (new : Running S)
    : Type 0 where
  pub scenario : new.scenario ≡ old.scenario
  pub budget : new.budget ≡ old.budget
  pub history : new.history ≡ old.history ++ events

-- a laboratory was driven on: each further event was the first that might come
pub record IsDriven {S : Type 0} (m : Meaning S) (old new : Running S) : Type 0 where
  pub events : List Event
  pub goes : GoesOn old events new
  pub follows : Follows m old.scenario old.state events new.state

-- a laboratory went on as this seed picks: each further event is the one that the seed's next word
-- picked; so once all is done, they are the whole run that the seed picks from there
pub record IsSeeded {S : Type 0} (m : Meaning S) (seed : ℕ) (old new : Running S) : Type 0 where
  pub events : List Event
  pub goes : GoesOn old events new
  pub chosen : Chooses m old.scenario old.state (first_words (seeded seed) (length events)) events
      new.state

-- a laboratory went on as this seed picks, promptly or not: each further event is the one that the
-- seed's next word picked among the choice where it stood; they are a run from there, so a complete
-- one once all is done (this project's own)
pub record IsPaced {S : Type 0} (m : Meaning S) (prompt : Bool) (seed : ℕ) (old new : Running S)
    : Type 0 where
  pub events : List Event
  pub goes : GoesOn old events new
  pub chosen : ChoosesFrom m old.scenario prompt old.state
      (first_words (seeded seed) (length events)) events new.state
  pub leads : Leads m old.scenario old.state events new.state
