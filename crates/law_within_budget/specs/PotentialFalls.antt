-- The potential is a measure of what is left to do (this project's own).
use Rattle.std.specs.Prelude.{◌≡◌, ℕ, ◌+◌, ◌≤◌, true, false, List, Some}
use Rattle.lab_target.specs.Meaning.{Meaning}
use Rattle.lab_model.specs.declared.event.Event.{Event}
use Rattle.lab_model.specs.After.{Next}
use Rattle.lab_model.specs.Cost.{budget}
use Rattle.lab_model.specs.Effect.{IsRun, Leads, effect}
use Rattle.lab_model.specs.Guard.{is_enabled}
use Rattle.lab_model.specs.Potential.{is_clock, potential, steps}
use Rattle.lab_model.specs.Below.{HasNoCycle}
use Rattle.lab_model.specs.Scenario.{Scenario}
use Rattle.lab_model.specs.Slots.{slot_at}
use Rattle.lab_model.specs.State.{State, Slot, opening}
use Rattle.lab_model.specs.Tables.{Table, image}
use Rattle.lab_model.specs.Walk.{version_image}

-- each live table is, but for what events change of its targets, a version of its device
abbrev pub TablesAreVersions : {S : Type 0} → Meaning S → Scenario S → State S → Type 0
TablesAreVersions {S} m c s = (device : ℕ) (slot : Slot (Table S)) (table : Table S)
    → slot_at s.devices device ≡ Some slot → slot.live ≡ Some table
    → (version : ℕ) × (version_image m c device version ≡ Some (image m table))

-- the potential falls by one at least with each event but the clock's, and stays with the clock's
abbrev pub PotentialFalls : {S : Type 0} → Meaning S → Type 0
PotentialFalls {S} m = (c : Scenario S) → HasNoCycle m c → (s next : State S)
    → TablesAreVersions m c s
    → (event : Event) → is_enabled c s event ≡ true → effect m c s event ≡ Next next
    → (is_clock event ≡ false → potential m c next + 1 ≤ potential m c s)
    × (is_clock event ≡ true → potential m c next ≡ potential m c s)

-- in each state that events lead to from this one the live tables are versions of their devices
abbrev pub KeepsVersions : {S : Type 0} → Meaning S → Scenario S → State S → Type 0
KeepsVersions {S} m c s =
    (events : List Event) (reached : State S) → Leads m c s events reached
    → TablesAreVersions m c reached

-- events, the clock's left out, are at most as many as the potential falls by
abbrev pub RunsFall : {S : Type 0} → Meaning S → Type 0
RunsFall {S} m = (c : Scenario S) → HasNoCycle m c → (events : List Event) (s end : State S)
    → KeepsVersions m c s
    → Leads m c s events end → steps events + potential m c end ≤ potential m c s

-- what is left to do before the first event is the budget
abbrev pub OpeningIsBudget : {S : Type 0} → Meaning S → Type 0
OpeningIsBudget {S} m = (c : Scenario S) → potential m c (opening c) ≡ budget m c

-- a run takes at most as many events, the clock's left out, as its budget
abbrev pub RunsKeepBudget : {S : Type 0} → Meaning S → Type 0
RunsKeepBudget {S} m = (c : Scenario S) → HasNoCycle m c → KeepsVersions m c (opening c) →
    (events : List Event) (end : State S)
    → IsRun m c events end → steps events + potential m c end ≤ budget m c
