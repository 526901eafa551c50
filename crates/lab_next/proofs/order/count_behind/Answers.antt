-- The bios' events and the clock's are counted.
use Rattle.lab_model.proofs.Common.{length-append, ◌≤◌, ap, arith, length, rules, ◌∙◌}
use Rattle.lab_state.specs.Places.{bio_events}
use Rattle.lab_state.proofs.Ready.{few-events}
use Rattle.lab_next.proofs.order.count_behind.Goals as goal

-- there are fewer events than numbers of bios
pub overflow_add-result : goal.overflow_add-result
overflow_add-result g c =
    let count = c.count_ready.ensures ∙ ap (λ v. length (bio_events v)) c.state.view_is in
    let one : c.from-clock.result ≤ 1 = search rules in
    omega (arith, few-events c.args.state.now, c.requires.bios)

-- so they are few
pub returns-clause-few : goal.returns-clause-few
returns-clause-few g c =
    let count = c.count_ready.ensures ∙ ap (λ v. length (bio_events v)) c.state.view_is in
    let one : c.from-clock.result ≤ 1 = search rules in
    omega (arith, few-events c.args.state.now, c.requires.bios)

-- all are counted
pub returns-clause-count : goal.returns-clause-count
returns-clause-count g c = search (rules, length-append)
