-- What is known of who wrote what, followed along a run.
use Rattle.std.specs.Prelude.{List, [], ◌∷◌}
use Rattle.lab_target.specs.Meaning.{Meaning}
use Rattle.lab_model.specs.After.{After, Next, Wrong}
use Rattle.lab_model.specs.Effect.{effect}
use Rattle.lab_model.specs.Scenario.{Scenario}
use Rattle.lab_model.specs.State.{State, opening}
use Rattle.lab_model.specs.declared.event.Event.{Event}
use Rattle.lab_watch.specs.declared.kept.Kept.{Kept}
use Rattle.lab_watch.specs.Known.{Known, nothing_known}
use Rattle.lab_watch.specs.Drops.{known_next}

-- what is known after an event, in the state that it leads to; a wrong one changes nothing
abbrev pub known_after : {S : Type 0} → Meaning S → State S → Known → Event → After S → Known
known_after m s known event (Next next) = known_next m s next known event
known_after m s known event (Wrong cause) = known

-- what is known after events, one after another
abbrev pub known_from : {S : Type 0} → Meaning S → Scenario S → After S → Known → List Event
    → Known
known_from m c after known [] = known
known_from m c (Wrong cause) known (event ∷ events) = known
known_from m c (Next s) known (event ∷ events) = known_from m c (effect m c s event)
    (known_after m s known event (effect m c s event)) events

-- what is known after the events of a run
abbrev pub known_of : {S : Type 0} → Meaning S → Scenario S → Kept → List Event → Known
known_of m c kept events = known_from m c (Next (opening c)) (nothing_known kept) events
