-- Why some events are no complete run of a scenario (this project's own).
use Rattle.std.specs.Prelude.{◌≡◌, ℕ, ◌+◌, false, List, Some, length, slice_get, take}
use Rattle.lab_target.specs.Meaning.{Meaning}
use Rattle.lab_model.specs.declared.event.Event.{Event}
use Rattle.lab_model.specs.Effect.{IsRun}
use Rattle.lab_model.specs.Guard.{is_done, is_enabled}
use Rattle.lab_model.specs.Scenario.{Scenario}
use Rattle.lab_model.specs.State.{State}
use Rattle.lab_core.specs.declared.audit.AuditFault.{AuditFault}
use Rattle.lab_core.specs.declared.audit.AuditFault.TheVariants.{NotEnabled, Unfinished, NoMemory}

module _ {S : Type 0} (m : Meaning S) (c : Scenario S) where
  -- the events before this place, counted from 0, are a run, after which the one there may not come
  abbrev pub StopsAt : List Event → ℕ → Type 0
  StopsAt events place = (event : Event) × (slice_get events place ≡ Some event)
      × (s : State S) × IsRun m c (take place events) s × (is_enabled c s event ≡ false)

  -- all events are a run, and not all is done after it
  abbrev pub EndsEarly : List Event → Type 0
  EndsEarly events = (s : State S) × IsRun m c events s × (is_done c s ≡ false)

-- what an audit's fault says of the events; its places are counted from 1
abbrev pub IsFaultOf : {S : Type 0} → Meaning S → Scenario S → List Event → AuditFault → Type 0
IsFaultOf m c events (NotEnabled number) =
    (place : ℕ) × (number ≡ place + 1) × StopsAt m c events place
IsFaultOf m c events (Unfinished number) =
    (number ≡ length events + 1) × EndsEarly m c events
IsFaultOf m c events NoMemory = Unit {0}
