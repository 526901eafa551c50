-- Each event leaves the disks' numbers and the logs' moments, or has started the logs, and makes no
-- more devices than it does micro-commands. What each event keeps, in a state that fits, holds
-- after every run of a fine scenario.
use Rattle.lab_model.proofs.Common.{rules, ◌≡◌, ◌⊎◌, ℕ, true, List, map, ◌+◌, ◌≤◌, length}
use Rattle.lab_model.proofs.Common.{arith, Meaning, LogState, State, map-change-alone}
use Rattle.lab_model.proofs.Common.{length-change, Scenario, [], ◌∷◌, subst, Lawful, IsRun, Leads}
use Rattle.lab_model.proofs.Common.{opening, Fine}
use Rattle.lab_model.specs.declared.micro.Order.{Order}
use Rattle.law_slots.proofs.ByBio.{disk_numbers}
use Rattle.law_slots.proofs.ByStep.{Ordered}
use Rattle.law_slots.proofs.WalkRuns.{AfterEach, next-gives}
use Rattle.lab_model.specs.declared.event.Event.{Event}
use Rattle.law_never_wrong.specs.Fits.{Fits}
use Rattle.law_never_wrong.specs.NeverWrong.{Goes}
use Rattle.law_never_wrong.proofs.Events.{events-fit}
use Rattle.law_never_wrong.proofs.Runs.{opening-Fits}

-- the moments of logs
abbrev pub log_moments : List LogState → List ℕ
log_moments logs = map (λ log. log.moment) logs

-- the logs have started, or whether they have and their moments stay
abbrev pub StartedOrStays : {S : Type 0} → State S → State S → Type 0
StartedOrStays s next = (next.started ≡ true)
    ⊎ ((next.started ≡ s.started) × (log_moments next.logs ≡ log_moments s.logs))

-- no more devices are made than micro-commands are done
abbrev pub GrowsBy : {S : Type 0} → State S → State S → Type 0
GrowsBy s next = length next.devices + s.done ≤ length s.devices + next.done

-- what each event leaves
pub record EventLeaves {S : Type 0} (s next : State S) : Type 0 where
  pub disks : disk_numbers next.disks ≡ disk_numbers s.disks
  pub logs : StartedOrStays s next
  pub grows : GrowsBy s next

-- where none is made, and none is done
same-grows : {S : Type 0} (s next : State S) → length next.devices ≡ length s.devices
    → next.done ≡ s.done → GrowsBy s next
same-grows s next devices done = omega (arith, devices, done)

-- a state with the same disks and logs, where the start stays
stays-leaves : {S : Type 0} (s next : State S) → next.disks ≡ s.disks
    → next.logs ≡ s.logs → next.started ≡ s.started → GrowsBy s next → EventLeaves s next
stays-leaves s next disks logs started grows = search rules

module _ {S : Type 0} (s : State S) where
  -- a step of the script
  ordered-leaves : (order : Order) (next : State S) → Ordered s order next → EventLeaves s next
  ordered-leaves order next does = search rules

-- each event
pub each-leaves : {S : Type 0} (m : Meaning S) (c : Scenario S) (s : State S)
    → AfterEach m c s (λ event. EventLeaves s)
each-leaves m c s =
    search (rules, stays-leaves, same-grows, length-change, map-change-alone, ordered-leaves)

module _ {S : Type 0} (m : Meaning S) (lawful : Lawful m) (c : Scenario S) (P : State S → Type 0)
    (R : State S → State S → Type 0)
    (each : (s : State S) → Fits m c s → P s → AfterEach m c s (λ event. R s))
    (keeps : (s next : State S) → Fits m c s → P s → R s next → P next) where
  -- event by event
  events-keep : (events : List Event) (s end : State S) → Fits m c s → P s
      → Leads m c s events end → P end
  events-keep [] s end fits has leads = rw leads has
  events-keep (event ∷ events) s end fits has leads =
      let goes = events-fit m lawful c s fits event leads.0 in
      events-keep events leads.1 end (subst (λ after. Goes after (Fits m c)) leads.2 goes)
      (search (rules, next-gives)) leads.3

  -- from the opening state on
  pub run-keeps : Fine m c → P (opening c) → (events : List Event) (s : State S)
      → IsRun m c events s → P s
  run-keeps fine first events s run = search (rules, events-keep, opening-Fits)
