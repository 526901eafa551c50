-- What each event does, and runs of events (this project's own).
use Rattle.std.specs.Prelude.{◌≡◌, Bool, true, false, List, ◌∷◌, Option, Some, None, []}
use Rattle.lab_target.specs.Meaning.{Meaning}
use Rattle.lab_model.specs.declared.event.Event.{Event}
use Rattle.lab_model.specs.declared.event.Event.TheVariants.{Line, Map, Serve, Release, Finish, Control, Clock}
use Rattle.lab_model.specs.After.{After, Next, Wrong, where_there}
use Rattle.lab_model.specs.ControlEffect.{control}
use Rattle.lab_model.specs.DiskEffect.{serve, release, finish}
use Rattle.lab_model.specs.Guard.{is_enabled, is_done, next_moment}
use Rattle.lab_model.specs.LogEffect.{take_line}
use Rattle.lab_model.specs.MapEffect.{map_bio}
use Rattle.lab_model.specs.Scenario.{Scenario}
use Rattle.lab_model.specs.State.{State, opening}

-- the clock goes on to the least moment that lies ahead
abbrev pub tick : {S : Type 0} → State S → After S
tick s = where_there s (next_moment s) (λ moment. Next (record s { clock = moment }))

-- what an event does
abbrev pub effect : {S : Type 0} → Meaning S → Scenario S → State S → Event → After S
effect m c s (Line log) = take_line c s log
effect m c s (Map number) = map_bio m s number
effect m c s (Serve number) = serve s number
effect m c s (Release number) = release s number
effect m c s (Finish number) = finish s number
effect m c s Control = control m c s
effect m c s Clock = tick s

-- events one after another, each enabled where it stands, lead from a state to another
abbrev pub Leads : {S : Type 0} → Meaning S → Scenario S → State S → List Event → State S → Type 0
Leads m c s [] end = end ≡ s
Leads {S} m c s (event ∷ events) end = (is_enabled c s event ≡ true) × (next : State S)
    × (effect m c s event ≡ Next next) × Leads m c next events end

-- a run of a scenario that ends in this state
abbrev pub IsRun : {S : Type 0} → Meaning S → Scenario S → List Event → State S → Type 0
IsRun m c events end = Leads m c (opening c) events end

-- a run after which all is done
abbrev pub IsComplete : {S : Type 0} → Meaning S → Scenario S → List Event → State S → Type 0
IsComplete m c events end = IsRun m c events end × (is_done c end ≡ true)

-- the state after an event that may come, for tests by computation
abbrev pub step_from : {S : Type 0} → Meaning S → Scenario S → Bool → State S → Event → After S
    → Option (State S)
step_from m c false s event after = None
step_from m c true s event (Wrong cause) = None
step_from m c true s event (Next next) = Some next

-- the state that events lead to, if each is enabled where it stands and none is wrong
abbrev pub state_after : {S : Type 0} → Meaning S → Scenario S → List Event → Option (State S)
    → Option (State S)
state_after m c events None = None
state_after m c [] (Some s) = Some s
state_after m c (event ∷ events) (Some s) =
    state_after m c events (step_from m c (is_enabled c s event) s event (effect m c s event))
