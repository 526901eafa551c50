-- What a tracer has written in a run that it watched is the trace of its events.
use Rattle.lab_model.proofs.Common.{◌≡◌, ℕ, ◌+◌, List, [], ◌∷◌, ◌++◌, refl, sym, ap, ap₂, ◌∙◌}
use Rattle.lab_model.proofs.Common.{subst}
use Rattle.lab_model.proofs.Common.{append_assoc, append-nil, length, length-append, Meaning}
use Rattle.lab_model.proofs.Common.{text_line, State}
use Rattle.lab_model.specs.declared.event.Event.{Event}
use Rattle.lab_core.specs.Running.{Running}
use Rattle.lab_core.specs.Watching.{IsWatched, Watches, event_later}
use Rattle.lab_watch.specs.Drops.{known_next, mapped}
use Rattle.lab_watch.specs.Heard.{heard}
use Rattle.lab_watch.specs.Known.{all_kept, nothing_known}
use Rattle.lab_watch.specs.Settled.{settled}
use Rattle.lab_trace.specs.Answered.{answer_columns}
use Rattle.lab_trace.specs.Happened.{told_after, told_before}
use Rattle.lab_trace.specs.Rows.{event_row}
use Rattle.lab_trace.specs.Text.{row_text}
use Rattle.lab_trace.specs.Traces.{Traces, TracesOn, ended_columns, head_text, told_columns}
use Rattle.lab_trace.specs.declared.tracer.Tracer.{Tracer}

-- texts that are written one after another, in another grouping
regrouped : (start row before after answer end : List ℕ)
    → (start ++ row ++ 9 ∷ before) ++ (after ++ (answer ++ end))
    ≡ start ++ (((row ++ 9 ∷ (before ++ after)) ++ answer) ++ end)
regrouped start row before after answer end = simp append_assoc

-- a line whose parts are written one after another is written
pub line-told : (start row before after answer one two : List ℕ)
    → one ≡ start ++ row ++ 9 ∷ before → two ≡ one ++ (after ++ (answer ++ 10 ∷ []))
    → two ≡ start ++ text_line ((row ++ 9 ∷ (before ++ after)) ++ answer)
line-told start row before after answer one two first second =
    second ∙ ap (λ text. text ++ (after ++ (answer ++ 10 ∷ []))) first
    ∙ regrouped start row before after answer (10 ∷ [])

-- what a tracer does before an event
abbrev pub Awaits : {S : Type 0} → Running S → Event → Tracer → Tracer → Type 0
Awaits lab event before after = (after.text.items ≡ before.text.items
    ++ row_text (event_row lab.scenario lab.state (length lab.history + 1) event) ++ 9
    ∷ told_before lab.scenario lab.state event)
    × (after.made ≡ length lab.state.bios)
    × (answer_columns after.ending.kind after.ending.told
    ≡ ended_columns lab.state (heard lab.state event before.ending.writers) event)
    × (after.ending.writers ≡ settled lab.state event (heard lab.state event before.ending.writers))

-- and after it
abbrev pub Sees : {S : Type 0} → Meaning S → Running S → Event → Tracer → Tracer → Type 0
Sees m lab event before after = (after.text.items ≡ before.text.items
    ++ (told_after before.made lab.state event
    ++ (answer_columns before.ending.kind before.ending.told ++ 10 ∷ [])))
    × (after.ending.writers ≡ mapped m before.made lab.state event before.ending.writers)

module _ {S : Type 0} (m : Meaning S) where
  -- what is written behind what was written before is the lines of the events
  pub traces : (events : List Event) (lab : Running S) (before : Tracer) (end : State S)
      (last : Tracer) → Watches m Awaits (Sees m) lab before events end last
      → (rows : List ℕ) × (last.text.items ≡ before.text.items ++ rows)
      × Traces m lab.scenario lab.state before.ending.writers (length lab.history + 1) events rows
  traces [] lab before end last watches =
      ([], ap (λ o. o.text.items) watches.1 ∙ sym (append-nil before.text.items), refl)
  traces (event ∷ events) lab before end last watches =
      let next = watches.0 in
      let mid = watches.2 in
      let awaited = watches.3 in
      let after = watches.4 in
      let seen = watches.5 in
      let s = lab.state in
      let c = lab.scenario in
      let place = length lab.history + 1 in
      let rest = traces events (event_later lab event next) after end last watches.6 in
      let line = text_line (told_columns c s before.ending.writers next place event) in
      let ended = ended_columns s (heard s event before.ending.writers) event in
      let answered = answer_columns mid.ending.kind mid.ending.told in
      let second : after.text.items
      ≡ mid.text.items ++ (told_after (length s.bios) next event ++ (ended ++ 10 ∷ [])) =
      seen.0 ∙ ap (λ n. mid.text.items
      ++ (told_after n next event ++ (answered ++ 10 ∷ []))) awaited.1
      ∙ ap (λ a. mid.text.items
      ++ (told_after (length s.bios) next event ++ (a ++ 10 ∷ []))) awaited.2 in
      let told : after.text.items ≡ before.text.items ++ line =
      line-told before.text.items (row_text (event_row c s place event)) (told_before c s event)
      (told_after (length s.bios) next event) ended mid.text.items after.text.items awaited.0
      second in
      let known = known_next m s next before.ending.writers event in
      let there : length (lab.history ++ event ∷ []) + 1 ≡ place + 1 =
      ap (λ n. n + 1) (length-append lab.history (event ∷ [])) in (
        line ++ rest.0,
        rest.1 ∙ ap (λ text. text ++ rest.0) told ∙ append_assoc before.text.items line rest.0,
        (
          next,
          watches.1,
          rest.0,
          refl,
          subst (λ p. Traces m c next known p events rest.0)
              there
              (subst (λ k. Traces m c next k (length (lab.history ++ event ∷ []) + 1) events rest.0)
              (seen.1 ∙ ap₂ (λ made k. mapped m made next event k) awaited.1 awaited.3) rest.2),
        ),
      )

  -- so a tracer that began with a run has written the trace of its history
  pub traces-all : (old new : Running S) (before last : Tracer)
      → IsWatched m Awaits (Sees m) old before new last → old.history ≡ []
      → before.text.items ≡ text_line head_text → before.ending.writers ≡ nothing_known all_kept
      → TracesOn m old.scenario old.state (nothing_known all_kept) 1 new.history
      (text_line head_text)
      last.text.items
  traces-all old new before last watched first head nobody =
      let all = traces watched.events old before new.state last watched.watches in
      let events-are : watched.events ≡ new.history =
      sym (watched.goes.history ∙ ap (λ h. h ++ watched.events) first) in
      let here : length old.history + 1 ≡ 1 = ap (λ h. length h + 1) first in (
        all.0,
        all.1 ∙ ap (λ t. t ++ all.0) head,
        subst (λ es. Traces m old.scenario old.state (nothing_known all_kept) 1 es all.0) events-are
            (subst (λ p. Traces m old.scenario old.state
            (nothing_known all_kept) p watched.events all.0) here
            (subst (λ k. Traces m old.scenario old.state k (length old.history + 1) watched.events
            all.0) nobody all.2)),
      )
