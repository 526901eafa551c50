-- The bios' events, then the clock's.
use Rattle.lab_model.proofs.Common.{slice_get-front, ◌≡◌, ◌<◌, ap, arith, length, rules, sym, ◌∙◌}
use Rattle.lab_state.specs.Places.{bio_events}
use Rattle.lab_next.proofs.Parts.{nth-clock, nth-past}
use Rattle.lab_next.proofs.order.nth_behind.Goals as goal

-- a bio's event
pub returns-in-Less : goal.returns-in-Less
returns-in-Less g c = search (rules, slice_get-front)

-- the clock's
pub returns-in-Equal : goal.returns-in-Equal
returns-in-Equal g c =
    let equal : c.args.number ≡ c.count_ready-ready.result = search rules in
    c.clock_at.ensures ∙ sym (nth-clock c.args.scenario.now c.args.state.now c.args.number
    (equal ∙ c.count_ready-ready.ensures ∙ ap (λ v. length (bio_events v)) c.state.view_is))

-- none
pub returns-in-Greater : goal.returns-in-Greater
returns-in-Greater g c =
    let count = c.count_ready-ready.ensures ∙ ap (λ v. length (bio_events v)) c.state.view_is in
    let greater : c.count_ready-ready.result < c.args.number = search rules in
    sym (nth-past c.args.scenario.now c.args.state.now c.args.number (omega arith))
