-- One byte after another is written.
use Rattle.lab_model.proofs.Common.{◌≡◌, ◌+◌, arith, rules, drop_of_length-le}
use Rattle.std.proofs.Common.{append-nil}
use Rattle.lab_trace.proofs.WrittenSteps.{byte-written, bytes_text-same}
use Rattle.lab_trace.proofs.written.push_sector.Goals as goal

pub loop-at-preserved : goal.loop-at-preserved
loop-at-preserved c =
    let place : c.in_ok-place.place ≡ c.args.first + c.loop-at.at = search rules in
    let text = c.loop-at.text.items in
    let next = c.push_change.new.text.items in
    byte-written c.args.first c.loop-at.at c.args.before.now c.args.after.now text next _
    (omega arith) (omega arith)
    (rw (c.byte.ensures.byte, c.byte-in-loop-at.ensures.byte, place) at c.in_ok-push_change.ensures)
    c.loop-at.invariant

-- no byte is left
pub returns : goal.returns
returns c = search (rules, drop_of_length-le, append-nil)

-- no byte is another
pub returns-then-are_alike : goal.returns-then-are_alike
returns-then-are_alike c = search (rules, bytes_text-same, append-nil)
