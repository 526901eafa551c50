-- The written order in parts: the script's and the logs' events, those of the bios, and the clock's
-- (this project's own).
use Rattle.std.specs.Prelude.{Bool, if◌then◌else◌, nat_lt, List, [], ◌∷◌, ◌++◌, filter, length, map, Option, Some, None}
use Rattle.std.specs.List.{list_any, range_with_len}
use Rattle.lab_model.specs.declared.event.Event.{Event}
use Rattle.lab_model.specs.declared.event.Event.TheVariants.{Line, Control, Clock}
use Rattle.lab_model.specs.Guard.{is_enabled, moments}
use Rattle.lab_model.specs.Scenario.{Scenario}
use Rattle.lab_model.specs.State.{State}
use Rattle.lab_state.specs.Places.{bio_events}

-- an event, if it passes a test
abbrev pub if_passes : (Event → Bool) → Event → Option Event
if_passes test event = if test event then Some event else None

-- the events of the script and of the logs that a state can speak of, in the written order
abbrev pub front : {S : Type 0} → Scenario S → List Event
front c = Control ∷ map (λ log. Line log) (range_with_len 1 (length c.logs))

-- those of them that may come next
abbrev pub front_events : {S : Type 0} → Scenario S → State S → List Event
front_events c s = filter (is_enabled c s) (front c)

-- the clock may go on: a moment that stands lies ahead
abbrev pub clock_may : {S : Type 0} → State S → Bool
clock_may s = list_any (λ moment. nat_lt s.clock moment) (moments s)

-- the clock's
abbrev pub clock_events : {S : Type 0} → Scenario S → State S → List Event
clock_events c s = filter (is_enabled c s) (Clock ∷ [])

-- those of the bios, and then the clock's
abbrev pub behind_events : {S : Type 0} → Scenario S → State S → List Event
behind_events c s = bio_events s ++ clock_events c s
