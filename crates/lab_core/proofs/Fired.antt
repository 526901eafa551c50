-- A laboratory seen from inside, and after an event.
use Rattle.lab_model.proofs.Common.{rules, ◌≡◌, true, List, [], ◌∷◌, ◌++◌, Result, OnErr, OnOk}
use Rattle.lab_model.proofs.Common.{Meaning, Next, effect, is_enabled, Scenario, State}
use Rattle.lab_model.specs.declared.event.Event.{Event}
use Rattle.lab_sector.specs.declared.memory.NoMemory.{NoMemory}
use Rattle.lab_index.specs.Numbers.{Marks}
use Rattle.lab_core.specs.Free.{IsFree, IsUpdated, touched_logs}
use Rattle.lab_core.specs.Running.{IsRunning, Running}
use Rattle.lab_core.proofs.FreeLines.{event-free}
use Rattle.lab_core.proofs.Seeded.{leads-more}

-- what is said of the scenario and the state inside is said of the laboratory
pub seen : {S X : Type 0} (f : Scenario S → State S → X) (plan : Scenario S)
    (inside lab : Running S) → plan ≡ inside.scenario → inside ≡ lab
    → f plan inside.state ≡ f lab.scenario lab.state
seen f plan inside lab same view = search rules

-- after an event that may come, or where memory was wanting, the events are a run
pub fired-runs : {S : Type 0} (m : Meaning S) (lab : Running S) (event : Event)
    (result : Result (Unit {0}) NoMemory) (state : State S) (history : List Event)
    (plan : Scenario S) → plan ≡ lab.scenario → IsRunning m lab
    → is_enabled lab.scenario lab.state event ≡ true
    → OnOk result (effect m plan lab.state event ≡ Next state)
    → OnOk result (history ≡ lab.history ++ event ∷ [])
    → OnErr result (state ≡ lab.state) → OnErr result (history ≡ lab.history)
    → IsRunning m (record lab { state = state; history = history })
fired-runs m lab event result state history plan same running may goes longer as_was kept =
    search (rules, leads-more)

-- and just the logs are marked that may take their next line
pub fired-free : {S : Type 0} (m : Meaning S) (c : Scenario S) (s : State S) (event : Event)
    (result : Result (Unit {0}) NoMemory) (next : State S) (plan : Scenario S) (old new : Marks)
    → plan ≡ c → IsFree c s old → is_enabled c s event ≡ true
    → OnOk result (effect m plan s event ≡ Next next)
    → OnOk result (IsUpdated plan next (touched_logs plan s event) old new)
    → OnErr result (next ≡ s) → OnErr result (new ≡ old) → IsFree c next new
fired-free m c s event result next plan old new same free may goes updated as_was kept =
    search (rules, event-free)
