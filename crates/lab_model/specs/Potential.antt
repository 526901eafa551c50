-- How many events a state can still take, the clock's left out (this project's own).
use Rattle.std.specs.Prelude.{ℕ, ◌+◌, ◌-◌, Bool, true, false, not, List, drop, length, map, sum, count_by}
use Rattle.std.specs.List.{zip}
use Rattle.lab_target.specs.Meaning.{Meaning}
use Rattle.lab_model.specs.declared.event.Event.{Event}
use Rattle.lab_model.specs.declared.event.Event.TheVariants.{Clock}
use Rattle.lab_model.specs.Bios.{Bio, Entering, Held, InFlight}
use Rattle.lab_model.specs.Cost.{cost, line_cost}
use Rattle.lab_model.specs.Scenario.{Scenario, LogPlan}
use Rattle.lab_model.specs.State.{State, LogState, living}

-- what a living bio still takes: its cost at its device, one more where it is held, and one
-- where it is in flight
abbrev pub bio_potential : {S : Type 0} → Meaning S → Scenario S → Bio → ℕ
bio_potential m c bio = elim bio.stage [
  | Entering ↦ cost m c bio.device bio.kind bio.span
  | Held due holder ↦ 1 + cost m c bio.device bio.kind bio.span
  | InFlight failed answered ↦ 1
]

-- what the lines that a log has left still take
abbrev pub log_potential : {S : Type 0} → Meaning S → Scenario S → LogPlan × LogState → ℕ
log_potential m c log = sum (map (line_cost m c) (drop log.1.taken log.0.lines))

-- the potential of a state: the lines and the micro-commands that are left, and the living bios
abbrev pub potential : {S : Type 0} → Meaning S → Scenario S → State S → ℕ
potential m c s = sum (map (log_potential m c) (zip c.logs s.logs)) + (length c.micros - s.done)
    + sum (map (bio_potential m c) (living s))

-- whether an event is the clock's
abbrev pub is_clock : Event → Bool
is_clock Clock = true
is_clock _ = false

-- how many events are not the clock's
abbrev pub steps : List Event → ℕ
steps events = count_by (λ event. not (is_clock event)) events

-- how many events are the clock's
abbrev pub clock_steps : List Event → ℕ
clock_steps events = count_by is_clock events
