-- What the slots and modes of the devices are after a run (this project's own).
use Rattle.std.specs.Prelude.{◌≡◌, ℕ, Bool, true, false, List, count_by}
use Rattle.lab_target.specs.Meaning.{Meaning}
use Rattle.lab_model.specs.declared.event.Event.{Event}
use Rattle.lab_model.specs.declared.event.Event.TheVariants.{Control}
use Rattle.lab_model.specs.Effect.{IsRun}
use Rattle.lab_model.specs.Scenario.{Scenario}
use Rattle.lab_model.specs.State.{State}
use Rattle.lab_model.specs.Walk.{devices_image, walk}

-- whether an event is the script's
abbrev pub is_control : Event → Bool
is_control Control = true
is_control _ = false

-- how many events are the script's
abbrev pub controls : List Event → ℕ
controls events = count_by is_control events

-- after any run the slots and modes are those of the walk after the micro-commands done, and those
-- are as many as the script's events
abbrev pub WalkIsKept : {S : Type 0} → Meaning S → Type 0
WalkIsKept {S} m = (c : Scenario S) (events : List Event) (s : State S) → IsRun m c events s
    → (devices_image m s.devices ≡ walk m c s.done) × (s.done ≡ controls events)
