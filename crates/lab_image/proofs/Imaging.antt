-- What stands on the disks in a run that was watched is what its events leave there.
use Rattle.lab_model.proofs.Common.{◌≡◌, ◌∙◌, List, [], ◌∷◌, ◌++◌, true, ap, ap₂, length, refl, sym}
use Rattle.lab_model.proofs.Common.{Meaning, State, is_done, ℕ}
use Rattle.lab_model.specs.declared.event.Event.{Event}
use Rattle.lab_model.specs.After.{After, Next}
use Rattle.lab_model.specs.Effect.{IsComplete}
use Rattle.lab_rulebook.specs.IsAccepted.{Verified}
use Rattle.lab_core.specs.Running.{IsRunning, Running, begun}
use Rattle.lab_core.specs.Watching.{IsWatched, Watches, event_later}
use Rattle.lab_image.specs.Images.{blank, image_heard, image_next, image_seen}
use Rattle.lab_image.specs.Rows.{image_rows}
use Rattle.lab_image.specs.Stands.{IsDisksOfEvents, image_after, image_from}
use Rattle.lab_image.specs.Text.{rows_text}
use Rattle.lab_image.specs.declared.imager.Imager.{Imager}

-- what an imager does before an event
abbrev pub Awaits : {S : Type 0} → Running S → Event → Imager → Imager → Type 0
Awaits lab event before after = (after.image ≡ image_heard lab.state event before.image)
    × (after.made ≡ length lab.state.bios)

-- and after it
abbrev pub Sees : {S : Type 0} → Running S → Event → Imager → Imager → Type 0
Sees lab event before after = after.image ≡ image_seen before.made lab.state before.image

module _ {S : Type 0} (m : Meaning S) where
  -- what stands there in the end is what the events leave
  pub images : (events : List Event) (lab : Running S) (before : Imager) (end : State S)
      (last : Imager) → Watches m Awaits Sees lab before events end last
      → last.image ≡ image_from m lab.scenario (Next lab.state) before.image events
  images [] lab before end last watches = ap (λ o. o.image) watches.1
  images (event ∷ events) lab before end last watches =
      let s = lab.state in
      let c = lab.scenario in
      let next = watches.0 in
      let mid = watches.2 in
      let awaited = watches.3 in
      let after = watches.4 in
      let then : after.image ≡ image_next s next event before.image =
      watches.5 ∙ ap₂ (λ made image. image_seen made next image) awaited.1 awaited.0 in
      images events (event_later lab event next) after end last watches.6
      ∙ ap (λ image. image_from m c (Next next) image events) then
      ∙ sym (ap (λ (to : After S). image_from m c to (image_after s event before.image to) events)
      watches.1)

  -- so it is what the history leaves, where the imager began with a run
  pub images-all : (old new : Running S) (before last : Imager)
      → IsWatched m Awaits Sees old before new last → old.history ≡ [] → before.image ≡ blank
      → last.image ≡ image_from m old.scenario (Next old.state) blank new.history
  images-all old new before last watched first none =
      images watched.events old before new.state last watched.watches
      ∙ ap₂ (λ image events. image_from m old.scenario (Next old.state) image events) none
      (sym (watched.goes.history ∙ ap (λ h. h ++ watched.events) first))

  -- and the disks of events that were watched are those after a complete run
  pub disks-watched : (accepted : Verified S) (lab : Running S) (events : List Event)
      (before last : Imager) (text : List ℕ)
      → IsWatched m Awaits Sees (begun accepted) before lab last → before.image ≡ blank
      → lab.scenario ≡ accepted.scenario → lab.history ≡ events
      → is_done lab.scenario lab.state ≡ true → IsRunning m lab
      → text ≡ rows_text (image_rows last.image.disks lab.state.disks)
      → IsDisksOfEvents m accepted.scenario events text
  disks-watched accepted lab events before last text watched none scenario history done runs told =
      let all = images-all (begun accepted) lab before last watched refl none in
      let whole : IsComplete m lab.scenario lab.history lab.state = (runs.run, done) in (
        lab.state,
        rw (scenario, history) at whole,
        told ∙ ap (λ image. rows_text (image_rows image.disks lab.state.disks)) (all
            ∙ ap (image_from m accepted.scenario (Next (begun accepted).state) blank) history),
      )
