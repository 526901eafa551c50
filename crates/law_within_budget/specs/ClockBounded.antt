-- How often the clock goes on, and how far (this project's own).
use Rattle.std.specs.Prelude.{◌≡◌, ℕ, ◌+◌, ◌*◌, ◌≤◌, List, Some, slice_get}
use Rattle.lab_target.specs.Meaning.{Meaning}
use Rattle.lab_model.specs.declared.event.Event.{Event}
use Rattle.lab_model.specs.Cost.{budget}
use Rattle.lab_model.specs.Effect.{IsRun}
use Rattle.lab_model.specs.Guard.{moments}
use Rattle.lab_model.specs.Potential.{clock_steps, potential}
use Rattle.lab_model.specs.Below.{HasNoCycle}
use Rattle.lab_model.specs.Scenario.{Scenario}
use Rattle.lab_model.specs.State.{State}
use Rattle.lab_model.specs.CreatesInOrder.{CreatesInOrder}
use Rattle.law_slots.specs.Timely.{IsTimely, hour}

-- where a run stands: its clock's events are at most as many as the budget; and neither the clock
-- nor any moment that lies ahead is later than as many hours as the budget says, less one for each
-- event that may still come
pub record ClockKeeps {S : Type 0} (m : Meaning S) (c : Scenario S) (events : List Event)
    (end : State S) : Type 0 where
  pub ticks : clock_steps events ≤ budget m c
  pub clock : end.clock + potential m c end * hour ≤ budget m c * hour
  pub ahead : (place moment : ℕ) → slice_get (moments end) place ≡ Some moment
      → moment + potential m c end * hour ≤ budget m c * hour

-- so does every run of a scenario without a cycle whose creates count from 0, and in which nothing
-- takes longer than an hour
abbrev pub ClockBounded : {S : Type 0} → Meaning S → Type 0
ClockBounded {S} m = (c : Scenario S) → HasNoCycle m c → CreatesInOrder c → IsTimely m c
    → (events : List Event) (end : State S) → IsRun m c events end → ClockKeeps m c events end
