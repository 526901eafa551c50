-- The status of one line more is told, with what is held for it.
use Rattle.lab_model.proofs.Common.{◌≡◌, ◌<◌, Some, ap, arith, get_or, get_or_from_slice_get}
use Rattle.lab_model.proofs.Common.{held_counts, length, live_at}
use Rattle.lab_state.specs.HeldRows.{AreHeldAt, nothing}
use Rattle.lab_effect.proofs.ToldLines.{status-more}
use Rattle.lab_effect.proofs.replies.status_replies.Goals as goal

-- its number is that of the lines before it
pub loop-place-preserved : goal.loop-place-preserved
loop-place-preserved g c =
    let lines = c.lines-line-items.result.now in
    let table = c.in-Some.table.now in
    let place = c.loop-place.place in
    let held = c.args.held.now in
    let counts = held_counts c.args.state.now c.args.device place in
    let live : Some table ≡ live_at c.args.state.now.devices c.args.device =
    rw (← c.state.view_is) c.in-Some.ensures in
    let counted : AreHeldAt c.args.state.now.bios c.args.device (length table) held =
    rw (← live) at c.requires in
    let inside : place < length table =
    omega (arith, c.loop-place-test.true, ap length c.lines-line-items.ensures.lines) in
    let right : get_or held place nothing ≡ counts =
    get_or_from_slice_get held place counts nothing (counted.each place inside) in
    status-more g.T.Target.meaning c.args.state.now c.args.device c.args.script_line lines place
    c.line-item.result (get_or held place nothing) c.in_ok-status_reply.field-0
    c.loop-place.replies.items c.push.new.self.items c.loop-place-test.true c.line-item.is right
    c.loop-place.invariant c.in_ok-status_reply.ensures c.in_ok-push.ensures.items
