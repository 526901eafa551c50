-- No run of a fine scenario stops before all is done, and none goes on after (this project's own).
use Rattle.std.specs.Prelude.{◌≡◌, true, false, List}
use Rattle.lab_target.specs.Meaning.{Meaning}
use Rattle.lab_model.specs.declared.event.Event.{Event}
use Rattle.lab_model.specs.Effect.{IsComplete, IsRun}
use Rattle.lab_model.specs.Guard.{is_done, is_enabled}
use Rattle.lab_model.specs.Scenario.{Scenario}
use Rattle.lab_model.specs.State.{State}
use Rattle.lab_model.specs.Fine.{Fine}

-- some event may come
abbrev pub SomeMay : {S : Type 0} → Scenario S → State S → Type 0
SomeMay c s = (event : Event) × (is_enabled c s event ≡ true)

-- after any run of a fine scenario some event may come, unless all is done
abbrev pub NeverStuck : {S : Type 0} → Meaning S → Type 0
NeverStuck {S} m = (c : Scenario S) → Fine m c → (events : List Event) (s : State S)
    → IsRun m c events s → is_done c s ≡ false → SomeMay c s

-- after a run that is complete no event may come
abbrev pub RestsWhenDone : {S : Type 0} → Meaning S → Type 0
RestsWhenDone {S} m = (c : Scenario S) (events : List Event) (s : State S)
    → IsComplete m c events s → (event : Event) → is_enabled c s event ≡ false
