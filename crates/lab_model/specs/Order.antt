-- The written order of the events that may come next: the script's, those of logs by number,
-- those of bios by number, and the clock's (this project's own).
use Rattle.std.specs.Prelude.{ℕ, List, [], ◌∷◌, ◌++◌, filter, length, map}
use Rattle.std.specs.List.{flat_map, range_with_len}
use Rattle.lab_model.specs.declared.event.Event.{Event}
use Rattle.lab_model.specs.declared.event.Event.TheVariants.{Line, Map, Serve, Release, Finish, Control, Clock}
use Rattle.lab_model.specs.Guard.{is_enabled}
use Rattle.lab_model.specs.Scenario.{Scenario}
use Rattle.lab_model.specs.State.{State}

-- the events of the bio of a number
abbrev pub events_of : ℕ → List Event
events_of number = Map number ∷ Serve number ∷ Release number ∷ Finish number ∷ []

-- all events that a state can speak of, in the written order
abbrev pub all_events : {S : Type 0} → Scenario S → State S → List Event
all_events c s = Control ∷ map (λ log. Line log) (range_with_len 1 (length c.logs))
    ++ flat_map events_of (range_with_len 1 (length s.bios)) ++ Clock ∷ []

-- those that may come next, in the written order
abbrev pub enabled_events : {S : Type 0} → Scenario S → State S → List Event
enabled_events c s = filter (is_enabled c s) (all_events c s)
