-- No event of any run of a fine scenario goes wrong (this project's own).
use Rattle.std.specs.Prelude.{◌≡◌, true, List, [], ◌∷◌}
use Rattle.lab_target.specs.Meaning.{Meaning}
use Rattle.lab_model.specs.declared.event.Event.{Event}
use Rattle.lab_model.specs.After.{After, Next, Wrong}
use Rattle.lab_model.specs.Effect.{IsRun, effect}
use Rattle.lab_model.specs.Guard.{is_enabled}
use Rattle.lab_model.specs.Scenario.{Scenario}
use Rattle.lab_model.specs.State.{State, opening}
use Rattle.lab_model.specs.Fine.{Fine}
use Rattle.law_never_wrong.specs.Fits.{Fits}

-- there is a next state, and a property holds of it
abbrev pub Goes : {S : Type 0} → After S → (State S → Type 0) → Type 0
Goes (Next next) P = P next
Goes (Wrong cause) P = ⊥

-- the opening state of a fine scenario fits
abbrev pub OpeningFits : {S : Type 0} → Meaning S → Type 0
OpeningFits {S} m = (c : Scenario S) → Fine m c → Fits m c (opening c)

-- in a state that fits, each event that may come goes on to a state that fits
abbrev pub EventsFit : {S : Type 0} → Meaning S → Type 0
EventsFit {S} m = (c : Scenario S) → (s : State S) → Fits m c s → (event : Event)
    → is_enabled c s event ≡ true → Goes (effect m c s event) (Fits m c)

-- each run of a fine scenario ends in a state that fits
abbrev pub RunsFit : {S : Type 0} → Meaning S → Type 0
RunsFit {S} m = (c : Scenario S) → Fine m c → (events : List Event) (s : State S)
    → IsRun m c events s → Fits m c s

-- each of some events may come where it stands; nothing is asked of those behind a wrong one
abbrev pub EachMay : {S : Type 0} → Meaning S → Scenario S → After S → List Event → Type 0
EachMay m c after [] = Unit {0}
EachMay m c (Wrong cause) (event ∷ events) = Unit {0}
EachMay m c (Next s) (event ∷ events) =
    (is_enabled c s event ≡ true) × EachMay m c (effect m c s event) events

-- a list of events, each of which may come where it stands, is a run of a fine scenario: none is
-- wrong
abbrev pub ListsAreRuns : {S : Type 0} → Meaning S → Type 0
ListsAreRuns {S} m = (c : Scenario S) → Fine m c → (events : List Event)
    → EachMay m c (Next (opening c)) events → (s : State S) × IsRun m c events s

-- after any run of a fine scenario, no event that may come is wrong
abbrev pub NeverWrong : {S : Type 0} → Meaning S → Type 0
NeverWrong {S} m = (c : Scenario S) → Fine m c → (events : List Event) (s : State S)
    → IsRun m c events s → (event : Event) → is_enabled c s event ≡ true
    → (next : State S) × (effect m c s event ≡ Next next)
