-- What is seen of a run goes on by one event more.
use Rattle.lab_model.proofs.Common.{rules, ◌≡◌, List, [], ◌∷◌, ◌++◌, refl, subst}
use Rattle.lab_model.proofs.Common.{append_assoc, append-nil, Meaning, Next, effect, State}
use Rattle.lab_model.specs.declared.event.Event.{Event}
use Rattle.lab_core.specs.Running.{Running}
use Rattle.lab_core.specs.Watching.{IsWatched, Watches, event_later}

-- a laboratory that went on by these events, to this state
abbrev pub gone : {S : Type 0} → Running S → List Event → State S → Running S
gone lab events end = record lab { state = end; history = lab.history ++ events }

module _ {S O : Type 0} (m : Meaning S) (awaits sees : Running S → Event → O → O → Type 0) where
  -- one event more is watched
  pub watches-more : (events : List Event) (lab : Running S) (o : O) (mid : Running S)
      (now between last : O) (event : Event) (next : State S)
      → mid ≡ gone lab events mid.state
      → Watches m awaits sees lab o events mid.state now
      → awaits mid event now between → effect m mid.scenario mid.state event ≡ Next next
      → sees (event_later mid event next) event between last
      → Watches m awaits sees lab o (events ++ event ∷ []) next last
  watches-more [] lab o mid now between last event next there watches awaited goes seen =
      let here : mid ≡ lab = search (rules, append-nil, watches.0, there) in (
        next,
        subst (λ l. effect m l.scenario l.state event ≡ Next next) here goes,
        between,
        subst (λ l. awaits l event o between) here (subst (λ n. awaits mid event n between) watches.1 awaited),
        last,
        subst (λ l. sees (event_later l event next) event between last) here seen,
        (refl, refl),
      )
  watches-more (first ∷ events) lab o mid now between last event next there watches awaited goes
      seen = (
        watches.0,
        watches.1,
        watches.2,
        watches.3,
        watches.4,
        watches.5,
        watches-more events (event_later lab first watches.0) watches.4 mid now between last event next
            (search (rules, append_assoc, there)) watches.6 awaited goes seen,
      )

  -- before the first event
  pub watched-none : (lab : Running S) (o : O) → IsWatched m awaits sees lab o lab o
  watched-none lab o = record { events = []; goes = search rules; watches = (refl, refl) }

  -- an event that was awaited, fired and seen is one more
  pub watched-more : (old mid new : Running S) (o now between last : O) (event : Event)
      → IsWatched m awaits sees old o mid now → awaits mid event now between
      → effect m mid.scenario mid.state event ≡ Next new.state
      → new.history ≡ mid.history ++ event ∷ [] → new.scenario ≡ mid.scenario
      → new.budget ≡ mid.budget → sees new event between last
      → IsWatched m awaits sees old o new last
  watched-more old mid new o now between last event watched awaited goes history scenario budget
      seen =
      let same : new ≡ event_later mid event new.state = search rules in
      let there : mid ≡ gone old watched.events mid.state = search (rules, watched.goes) in
      record {
        events = watched.events ++ event ∷ [];
        goes = search (rules, append_assoc, watched.goes);
        watches = watches-more watched.events old o mid now between last event new.state there
            watched.watches awaited goes (subst (λ lab. sees lab event between last) same seen);
      }
