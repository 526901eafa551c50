-- What is noted in a run, from event to event (this project's own).
use Rattle.std.specs.Prelude.{◌≡◌, ℕ, length, List, [], ◌∷◌, ◌++◌}
use Rattle.lab_target.specs.Meaning.{Meaning}
use Rattle.lab_model.specs.declared.event.Event.{Event}
use Rattle.lab_model.specs.declared.event.Event.TheVariants.{Line, Map}
use Rattle.lab_model.specs.After.{Next}
use Rattle.lab_model.specs.Effect.{effect}
use Rattle.lab_model.specs.Scenario.{Scenario}
use Rattle.lab_model.specs.State.{State}
use Rattle.lab_findings.specs.declared.noted.Noted.{Noted}
use Rattle.lab_findings.specs.Heard.{watch_heard}
use Rattle.lab_findings.specs.Issuing.{watch_issued}
use Rattle.lab_findings.specs.Mapped.{watch_mapped}
use Rattle.lab_findings.specs.Noted.{watch_noted}
use Rattle.lab_findings.specs.Settled.{watch_settled}
use Rattle.lab_findings.specs.Watched.{Watched}

-- in the state after an event, before which so many bios were made
abbrev pub watch_seen : {S : Type 0} → Meaning S → ℕ → State S → Event → Watched → Watched
watch_seen m made s (Line log) watched = watch_issued made s watched
watch_seen m made s (Map number) watched = watch_mapped m made s number watched
watch_seen m made s event watched = watched

-- what is watched after an event that leads from one state to the next
abbrev pub watch_next : {S : Type 0} → Meaning S → State S → State S → Event → Watched → Watched
watch_next m s next event watched =
    watch_seen m (length s.bios) next event (watch_settled s event (watch_heard m s event watched))

-- what is noted at an event that comes in a state
abbrev pub noted_here : {S : Type 0} → Meaning S → State S → Event → Watched → List Noted
noted_here m s event watched = watch_noted s event (watch_heard m s event watched)

-- what is noted where events are fired one after another from a state on, before which so much was
-- watched
abbrev pub FindsIn : {S : Type 0} → Meaning S → Scenario S → State S → Watched → List Event
    → List Noted → Type 0
FindsIn m c s watched [] noted = noted ≡ []
FindsIn {S} m c s watched (event ∷ events) noted = (next : State S)
    × (effect m c s event ≡ Next next) × (rest : List Noted)
    × (noted ≡ noted_here m s event watched ++ rest)
    × FindsIn m c next (watch_next m s next event watched) events rest
