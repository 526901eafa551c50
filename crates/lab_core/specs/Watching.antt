-- What is seen of a run while it goes, from event to event (this project's own).
use Rattle.std.specs.Prelude.{◌≡◌, List, [], ◌∷◌, ◌++◌}
use Rattle.lab_target.specs.Meaning.{Meaning}
use Rattle.lab_model.specs.declared.event.Event.{Event}
use Rattle.lab_model.specs.After.{Next}
use Rattle.lab_model.specs.Effect.{effect}
use Rattle.lab_model.specs.State.{State}
use Rattle.lab_core.specs.Runs.{GoesOn}
use Rattle.lab_core.specs.Running.{Running}

-- a laboratory one event later
abbrev pub event_later : {S : Type 0} → Running S → Event → State S → Running S
event_later lab event next =
    record lab { state = next; history = lab.history ++ event ∷ [] }

module _ {S O : Type 0} (m : Meaning S) (awaits sees : Running S → Event → O → O → Type 0) where
  -- what watches goes on from one value to another while events are fired one after another: each
  -- is awaited where it comes, and seen once it has come
  abbrev pub Watches : Running S → O → List Event → State S → O → Type 0
  Watches lab o [] end last = (end ≡ lab.state) × (last ≡ o)
  Watches lab o (event ∷ events) end last = (next : State S)
      × (effect m lab.scenario lab.state event ≡ Next next) × (mid : O) × awaits lab event o mid
      × (after : O) × sees (event_later lab event next) event mid after
      × Watches (event_later lab event next) after events end last

-- a laboratory went on by further events, all of them watched, by a value that went from one to
-- another
pub record IsWatched {S O : Type 0} (m : Meaning S)
    (awaits sees : Running S → Event → O → O → Type 0) (old : Running S) (o : O) (new : Running S)
    (last : O) : Type 0 where
  pub events : List Event
  pub goes : GoesOn old events new
  pub watches : Watches m awaits sees old o events new.state last
