-- How many of a run's events belong to each worker: one worker for each log, one for the script and
-- one for the timers (this project's own).
use Rattle.std.specs.Prelude.{◌≡◌, ℕ, ◌+◌, ◌-◌, ◌<◌, ◌≤◌, List, [], ◌∷◌, Some, length, slice_get}
use Rattle.std.specs.Prelude.{slice_index, slice_set, if◌then◌else◌}
use Rattle.lab_target.specs.Meaning.{Meaning}
use Rattle.lab_model.specs.declared.event.Event.{Event}
use Rattle.lab_model.specs.declared.event.Who.{Who}
use Rattle.lab_model.specs.declared.event.Who.TheVariants.{Log, Control, Timers}
use Rattle.lab_model.specs.After.{After, Next, Wrong}
use Rattle.lab_model.specs.Effect.{effect}
use Rattle.lab_model.specs.Owner.{owner_of}
use Rattle.lab_model.specs.Scenario.{Scenario}
use Rattle.lab_model.specs.State.{opening}
use Rattle.lab_next.specs.Over.{is_same}

-- the place of a worker: those of the logs come first, then the script's, then the timers'
abbrev pub place_of : ℕ → Who → ℕ
place_of logs (Log log) = log - 1
place_of logs Control = logs
place_of logs Timers = logs + 1

-- the counts with one more at a place
abbrev pub one_more : List ℕ → ℕ → List ℕ
one_more counts place = slice_set counts place (slice_index counts place + 1)

-- there is such a worker among so many logs
abbrev pub IsWorker : ℕ → Who → Type 0
IsWorker logs (Log log) = (0 < log) × (log ≤ logs)
IsWorker logs _ = Unit {0}

-- how many of some events, one after another, belong to a worker where they stand
abbrev pub owned_after : {S : Type 0} → Meaning S → Scenario S → After S → Who → List Event → ℕ
owned_after m c after who [] = 0
owned_after m c (Wrong cause) who (event ∷ events) = 0
owned_after m c (Next s) who (event ∷ events) =
    (if is_same (owner_of s event) who then 1 else 0)
    + owned_after m c (effect m c s event) who events

-- how many of a run's events belong to a worker
abbrev pub owned : {S : Type 0} → Meaning S → Scenario S → Who → List Event → ℕ
owned m c who events = owned_after m c (Next (opening c)) who events

-- each worker's count is the number of the events that belong to it
pub record CountsTurns {S : Type 0} (m : Meaning S) (c : Scenario S) (events : List Event)
    (counts : List ℕ) : Type 0 where
  pub size : length counts ≡ length c.logs + 2
  pub each : (who : Who) → IsWorker (length c.logs) who
      → slice_get counts (place_of (length c.logs) who) ≡ Some (owned m c who events)
