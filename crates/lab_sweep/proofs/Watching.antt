-- What a finder has noted in a run that it watched is what is noted in its events.
use Rattle.lab_model.proofs.Common.{◌≡◌, List, [], ◌∷◌, ◌++◌, refl, sym, subst, ap, ◌∙◌}
use Rattle.lab_model.proofs.Common.{append_assoc, append-nil, length, Meaning, State}
use Rattle.lab_model.specs.declared.event.Event.{Event}
use Rattle.lab_core.specs.Running.{Running}
use Rattle.lab_core.specs.Watching.{IsWatched, Watches, event_later}
use Rattle.lab_findings.specs.declared.noted.Noted.{Noted}
use Rattle.lab_findings.specs.declared.sought.Sought.{Sought}
use Rattle.lab_findings.specs.Heard.{watch_heard}
use Rattle.lab_findings.specs.Searched.{FindsIn, noted_here, watch_next, watch_seen}
use Rattle.lab_findings.specs.Settled.{watch_settled}
use Rattle.lab_findings.specs.Watched.{unwatched}
use Rattle.lab_sweep.specs.declared.finder.Finder.{Finder}

module _ {S : Type 0} (m : Meaning S) where
  -- what a finder does before an event
  abbrev pub Awaits : Running S → Event → Finder → Finder → Type 0
  Awaits lab event before after =
      (after.noted.items ≡ before.noted.items ++ noted_here m lab.state event before.watch)
      × (after.watch ≡ watch_settled lab.state event (watch_heard m lab.state event before.watch))
      × (after.made ≡ length lab.state.bios)

  -- and after it
  abbrev pub Sees : Running S → Event → Finder → Finder → Type 0
  Sees lab event before after = (after.noted.items ≡ before.noted.items)
      × (after.watch ≡ watch_seen m before.made lab.state event before.watch)

module _ {S : Type 0} (m : Meaning S) where
  -- what is noted behind what was noted before is what is noted in the events
  pub finds : (events : List Event) (lab : Running S) (before : Finder) (end : State S)
      (last : Finder) → Watches m (Awaits m) (Sees m) lab before events end last
      → (more : List Noted) × (last.noted.items ≡ before.noted.items ++ more)
      × FindsIn m lab.scenario lab.state before.watch events more
  finds [] lab before end last watches =
      ([], ap (λ o. o.noted.items) watches.1 ∙ sym (append-nil before.noted.items), refl)
  finds (event ∷ events) lab before end last watches =
      let next = watches.0 in
      let mid = watches.2 in
      let awaited = watches.3 in
      let after = watches.4 in
      let seen = watches.5 in
      let rest = finds events (event_later lab event next) after end last watches.6 in
      let here = noted_here m lab.state event before.watch in
      let then : after.watch ≡ watch_next m lab.state next event before.watch =
      seen.1 ∙ ap (λ made. watch_seen m made next event mid.watch) awaited.2
      ∙ ap (watch_seen m (length lab.state.bios) next event) awaited.1 in (
        here ++ rest.0,
        rest.1 ∙ ap (λ noted. noted ++ rest.0) (seen.0 ∙ awaited.0)
            ∙ append_assoc before.noted.items here rest.0,
        (
          next,
          watches.1,
          rest.0,
          refl,
          subst (λ w. FindsIn m lab.scenario next w events rest.0) then rest.2,
        ),
      )

  -- so a finder that began with a run has noted what is noted in its history
  pub finds-all : (old new : Running S) (before last : Finder) (sought : Sought)
      → IsWatched m (Awaits m) (Sees m) old before new last → old.history ≡ []
      → before.noted.items ≡ [] → before.watch ≡ unwatched sought
      → FindsIn m old.scenario old.state (unwatched sought) new.history last.noted.items
  finds-all old new before last sought watched first none nothing =
      let all = finds watched.events old before new.state last watched.watches in
      let events-are : new.history ≡ watched.events =
      watched.goes.history ∙ ap (λ h. h ++ watched.events) first in
      let noted-are : last.noted.items ≡ all.0 = all.1 ∙ ap (λ f. f ++ all.0) none in
      rw (events-are, noted-are, ← nothing) all.2
