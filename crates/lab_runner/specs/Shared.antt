-- What the lock of a run by threads keeps, and what a worker's turn does to it (this project's
-- own).
use Rattle.std.specs.Prelude.{◌≡◌, ◌⊎◌, ℕ, ◌+◌, ◌≤◌, Bool, true, false, List, [], ◌∷◌, ◌++◌}
use Rattle.std.specs.Prelude.{Option, Some, None, length, replicate}
use Rattle.std.specs.List.{find}
use Rattle.lab_target.specs.Meaning.{Meaning}
use Rattle.lab_model.specs.declared.event.Event.{Event}
use Rattle.lab_model.specs.declared.event.Who.{Who}
use Rattle.lab_model.specs.After.{Next}
use Rattle.lab_model.specs.Effect.{IsRun, effect}
use Rattle.lab_model.specs.Order.{enabled_events}
use Rattle.lab_model.specs.Owner.{owner_of}
use Rattle.lab_model.specs.Potential.{potential, steps}
use Rattle.lab_model.specs.Scenario.{Scenario}
use Rattle.lab_next.specs.Over.{is_over, is_same}
use Rattle.lab_core.specs.Running.{Running}
use Rattle.lab_runner.specs.Counts.{CountsTurns, one_more, place_of}
use Rattle.lab_runner.specs.declared.turn.Turn.{Turn}
use Rattle.lab_runner.specs.declared.turn.Turn.TheVariants.{Fired, Idle, Over, Stop}

-- what is under the lock: the laboratory, the workers' counts, and whether a stop was asked for
pub record Sharing (S : Type 0) : Type 0 where
  pub lab : Running S
  pub counts : List ℕ
  pub stop : Bool

-- whenever the lock is free: the events are a run of the scenario that was handed in and end in the
-- state, they and what is left are within the budget, and each worker's count is what belongs to it
pub record IsShared {S : Type 0} (m : Meaning S) (c : Scenario S) (shared : Sharing S)
    : Type 0 where
  pub scenario : shared.lab.scenario ≡ c
  pub run : IsRun m c shared.lab.history shared.lab.state
  pub within : steps shared.lab.history + potential m c shared.lab.state ≤ shared.lab.budget
  pub counted : CountsTurns m c shared.lab.history shared.counts

-- a laboratory before its first turn
abbrev pub shared_first : {S : Type 0} → Running S → Sharing S
shared_first lab = record {
  lab = lab;
  counts = replicate (length lab.scenario.logs + 2) 0;
  stop = false;
}

-- the first event, in the written order, that may come next and belongs to a worker
abbrev pub next_of : {S : Type 0} → Running S → Who → Option Event
next_of lab who = find (λ event. is_same (owner_of lab.state event) who)
    (enabled_events lab.scenario lab.state)

-- the next event of a worker was fired, and is counted for it
pub record Fires {S : Type 0} (m : Meaning S) (who : Who) (old new : Sharing S) : Type 0 where
  pub event : Event
  pub next : next_of old.lab who ≡ Some event
  pub effect_is : effect m old.lab.scenario old.lab.state event ≡ Next new.lab.state
  pub history : new.lab.history ≡ old.lab.history ++ event ∷ []
  pub scenario : new.lab.scenario ≡ old.lab.scenario
  pub budget : new.lab.budget ≡ old.lab.budget
  pub counts : new.counts ≡ one_more old.counts (place_of (length old.lab.scenario.logs) who)
  pub stop : new.stop ≡ false

-- an event of a worker might come, but memory ran out: a stop is asked for, and nothing else
-- changed
pub record GivesUp {S : Type 0} (who : Who) (old new : Sharing S) : Type 0 where
  pub event : Event
  pub next : next_of old.lab who ≡ Some event
  pub asks : new ≡ record old { stop = true }

-- what a worker's turn did, where no stop was asked for before it
abbrev pub IsFreeTurn : {S : Type 0} → Meaning S → Who → Sharing S → Turn → Sharing S → Type 0
IsFreeTurn m who old Over new =
    (is_over old.lab.scenario old.lab.state who ≡ true) × (new ≡ old)
IsFreeTurn m who old Idle new = (is_over old.lab.scenario old.lab.state who ≡ false)
    × (next_of old.lab who ≡ None) × (new ≡ old)
IsFreeTurn m who old Fired new =
    (is_over old.lab.scenario old.lab.state who ≡ false) × Fires m who old new
IsFreeTurn m who old Stop new =
    (is_over old.lab.scenario old.lab.state who ≡ false) × GivesUp who old new

-- what a worker's turn did: nothing where a stop was asked for
abbrev pub IsTurn : {S : Type 0} → Meaning S → Who → Sharing S → Turn → Sharing S → Type 0
IsTurn m who old turn new = ((old.stop ≡ true) × (turn ≡ Stop) × (new ≡ old))
    ⊎ ((old.stop ≡ false) × IsFreeTurn m who old turn new)
