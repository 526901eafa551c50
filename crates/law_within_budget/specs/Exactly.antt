-- Where the budget is what a run takes (this project's own).
use Rattle.std.specs.Prelude.{◌≡◌, ◌+◌, true, List}
use Rattle.lab_target.specs.Meaning.{Meaning}
use Rattle.lab_model.specs.declared.event.Event.{Event}
use Rattle.lab_model.specs.Cost.{budget}
use Rattle.lab_model.specs.Effect.{IsComplete, IsRun}
use Rattle.lab_model.specs.Guard.{is_done}
use Rattle.lab_model.specs.Potential.{potential, steps}
use Rattle.lab_model.specs.Below.{HasNoCycle}
use Rattle.lab_model.specs.Scenario.{Scenario}
use Rattle.lab_model.specs.State.{State}
use Rattle.lab_model.specs.CreatesInOrder.{CreatesInOrder}
use Rattle.lab_model.specs.Fine.{Fine}
use Rattle.law_within_budget.specs.PassesAll.{HasOneVersion, TablesPassAll}

-- a scenario without a cycle whose creates count from 0, in which no device has more than one
-- version and all targets take the dearest course
pub record IsDear {S : Type 0} (m : Meaning S) (c : Scenario S) : Type 0 where
  pub acyclic : HasNoCycle m c
  pub creates : CreatesInOrder c
  pub single : HasOneVersion c
  pub passes : TablesPassAll m c

-- in each run of such a scenario the events, the clock's left out, and what its end can still take
-- are together the budget
abbrev pub StepsAndRest : {S : Type 0} → Meaning S → Type 0
StepsAndRest {S} m = (c : Scenario S) → IsDear m c → (events : List Event) (end : State S)
    → IsRun m c events end → steps events + potential m c end ≡ budget m c

-- where all is done, nothing can be taken any more
abbrev pub NothingLeft : {S : Type 0} → Meaning S → Type 0
NothingLeft {S} m = (c : Scenario S) (s : State S) → is_done c s ≡ true → potential m c s ≡ 0

-- so a run of such a scenario after which all is done takes as many events as the budget, the
-- clock's left out
abbrev pub StepsAreBudget : {S : Type 0} → Meaning S → Type 0
StepsAreBudget {S} m = (c : Scenario S) → IsDear m c → (events : List Event) (end : State S)
    → IsComplete m c events end → steps events ≡ budget m c

-- the same for each fine scenario, as every accepted one is: where no device has more than one
-- version and all targets take the dearest course, a run after which all is done takes as many
-- events as the budget, the clock's left out
abbrev pub MeetsItsBudget : {S : Type 0} → Meaning S → Type 0
MeetsItsBudget {S} m = (c : Scenario S) → Fine m c → HasOneVersion c → TablesPassAll m c
    → (events : List Event) (end : State S) → IsComplete m c events end
    → steps events ≡ budget m c
