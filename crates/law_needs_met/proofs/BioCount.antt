-- How many events of a run are the clock's, the script's and others. A run makes no more bios than
-- its budget: one that is gone has taken an event, and a living one has one left.
use Rattle.lab_model.proofs.Common.{rules, ◌≡◌, ◌+◌, ◌≤◌, not, Bool, cond, List, [], ◌∷◌, length}
use Rattle.lab_model.proofs.Common.{sum_by-cons, clock_steps, is_clock, steps, ℕ, Option, Some}
use Rattle.lab_model.proofs.Common.{None, map, refl, ap, arith, Meaning, Bio, budget, IsRun, Leads}
use Rattle.lab_model.proofs.Common.{bio_potential, potential, Scenario, State, of_entry, total}
use Rattle.lab_model.proofs.Common.{total-append, total-numbered-entry, total-numbered-same}
use Rattle.lab_model.specs.declared.event.Event.{Event}
use Rattle.law_slots.specs.WalkIsKept.{controls, is_control}
use Rattle.law_answered_once.proofs.OrderLaw.{first-Moves}
use Rattle.law_answered_once.proofs.Waiting.{Moves}
use Rattle.law_within_budget.proofs.Weight.{potential-is}

-- one event more
pub steps-cons : (event : Event) (events : List Event)
    → steps (event ∷ events) ≡ cond (not (is_clock event)) 1 0 + steps events
steps-cons event events = sum_by-cons (λ e. cond (not (is_clock e)) 1 0) event events

-- an event is the clock's or not
one-step : (clock : Bool) → cond (not clock) 1 0 + cond clock 1 0 ≡ 1
one-step clock = search rules

-- the events are the clock's and the others
pub all-steps : (events : List Event) → length events ≡ steps events + clock_steps events
all-steps [] = search rules
all-steps (event ∷ events) = search (rules, steps-cons, sum_by-cons, one-step, all-steps events)

-- a step of the script isn't the clock's
control-step : (event : Event) → cond (is_control event) 1 0 ≤ cond (not (is_clock event)) 1 0
control-step event = search rules

-- the script's steps are some of the steps
pub controls-most : (events : List Event) → controls events ≤ steps events
controls-most [] = search rules
controls-most (event ∷ events) =
    search (rules, control-step, steps-cons, sum_by-cons, controls-most events)

-- 1 at an entry whose bio is gone
abbrev gone_entry : {X : Type 0} → Option X → ℕ
gone_entry None = 1
gone_entry (Some x) = 0

-- none of what is there is gone
gone-there : {X : Type 0} (xs : List X) → total gone_entry (map (λ x. Some x) xs) ≡ 0
gone-there [] = refl
gone-there (x ∷ xs) = omega (arith, gone-there xs)

-- no event but the clock's takes more than one away, and the clock's none
event-gone : {S : Type 0} (c : Scenario S) (s next : State S) (e : Event) → Moves c s e next
    → total gone_entry next.bios ≤ total gone_entry s.bios + cond (not (is_clock e)) 1 0
event-gone c s next e moves =
    search (rules, total-append, gone-there, total-numbered-same, total-numbered-entry)

-- along events no more bios go than there are steps
events-gone : {S : Type 0} (m : Meaning S) (c : Scenario S) (events : List Event) (s end : State S)
    → Leads m c s events end
    → total gone_entry end.bios ≤ total gone_entry s.bios + steps events
events-gone m c [] s end leads =
    omega (arith, ap (λ (state : State _). total gone_entry state.bios) leads)
events-gone m c (event ∷ events) s end leads = omega (
  arith,
  events-gone m c events leads.1 end leads.3,
  event-gone c s leads.1 event (first-Moves m c s event events end leads),
  steps-cons event events,
)

module _ {S : Type 0} (m : Meaning S) (c : Scenario S) where
  -- an entry is gone, or has one
  entries-most : (entries : List (Option Bio))
      → length entries ≤ total gone_entry entries + total (of_entry (bio_potential m c)) entries
  entries-most [] = search rules
  entries-most (entry ∷ entries) = search (rules, entries-most entries)

  -- so a run has no more bios than its budget
  pub bios-most : (events : List Event) (s : State S) → IsRun m c events s
      → steps events + potential m c s ≤ budget m c → length s.bios ≤ budget m c
  bios-most events s run within = search (rules, entries-most, events-gone, potential-is)
