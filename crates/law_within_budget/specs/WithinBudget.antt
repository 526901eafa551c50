-- No run takes more events than its budget (this project's own).
use Rattle.std.specs.Prelude.{◌+◌, ◌≤◌, List}
use Rattle.lab_target.specs.Meaning.{Meaning}
use Rattle.lab_model.specs.declared.event.Event.{Event}
use Rattle.lab_model.specs.Cost.{budget}
use Rattle.lab_model.specs.Effect.{IsRun}
use Rattle.lab_model.specs.Potential.{potential, steps}
use Rattle.lab_model.specs.Below.{HasNoCycle}
use Rattle.lab_model.specs.Scenario.{Scenario}
use Rattle.lab_model.specs.State.{State}
use Rattle.lab_model.specs.CreatesInOrder.{CreatesInOrder}

-- where no device lies below itself and the creates count from 0: the events of any run, the
-- clock's left out, and
-- what its end can still take are together at most the budget
abbrev pub WithinBudget : {S : Type 0} → Meaning S → Type 0
WithinBudget {S} m =
    (c : Scenario S) → HasNoCycle m c → CreatesInOrder c → (events : List Event) (end : State S)
    → IsRun m c events end → steps events + potential m c end ≤ budget m c
