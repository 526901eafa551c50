-- What bounds the runs of an accepted scenario: the events that a state can still take, how often
-- the clock goes on, and how far (this project's own).
use Rattle.std.specs.Prelude.{◌*◌, ◌^◌, ◌<◌, List, ◌+◌, ◌≤◌}
use Rattle.lab_target.specs.Meaning.{Meaning}
use Rattle.lab_model.specs.declared.event.Event.{Event}
use Rattle.lab_model.specs.Cost.{budget}
use Rattle.lab_model.specs.Effect.{IsRun}
use Rattle.lab_model.specs.Potential.{potential, steps}
use Rattle.lab_model.specs.Scenario.{Scenario}
use Rattle.lab_model.specs.State.{State}
use Rattle.law_slots.specs.Timely.{hour}
use Rattle.law_within_budget.specs.ClockBounded.{ClockKeeps}
use Rattle.lab_rulebook.specs.Accepted.{Accepted}
use Rattle.lab_rulebook.specs.Hours.{ReadInHours}
use Rattle.lab_rulebook.specs.Parts.{Parts}
use Rattle.lab_rulebook.specs.Read.{WellRead}
use Rattle.lab_rulebook.specs.Walked.{scenario_of}

-- what bounds a scenario's runs
pub record StaysBounded {S : Type 0} (m : Meaning S) (c : Scenario S) : Type 0 where
  -- the events so far that are not the clock's, and those that the state can still take, are at
  -- most the budget
  pub within_budget : (events : List Event) (s : State S) → IsRun m c events s
      → steps events + potential m c s ≤ budget m c
  -- at most as many are the clock's; and each moment that stands, the clock and those ahead of it,
  -- with an hour for each event that is left, is at most an hour for each of the budget
  pub clock_bounded : (events : List Event) (s : State S) → IsRun m c events s
      → ClockKeeps m c events s
  -- so each moment fits 64 bits
  pub fits : budget m c * hour < 2 ^ 64

-- the runs of every accepted scenario stay bounded, where its parts are as reading gives them
abbrev pub Bounds : {S : Type 0} → Meaning S → Type 0
Bounds {S} m = (parts : Parts S) → WellRead m parts → ReadInHours parts → Accepted m parts
    → StaysBounded m (scenario_of m parts)
