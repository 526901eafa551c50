-- One run after another is written, up to the last.
use Rattle.lab_model.proofs.Common.{◌≡◌, ◌∙◌, ◌+◌, true, false, sym, get_or, drop, drop_more}
use Rattle.lab_model.proofs.Common.{None}
use Rattle.lab_watch.specs.declared.row.Run.{Run}
use Rattle.lab_trace.specs.Answered.{same_origin, wrote}
use Rattle.lab_trace.proofs.AnswerSteps.{run-ended, run-on}
use Rattle.lab_trace.proofs.answered.push_runs.Goals as goal

-- one of the same operation goes on with the one before
pub loop-run-preserved-then-same_origin : goal.loop-run-preserved-then-same_origin
loop-run-preserved-then-same_origin c =
    let items = c.args.more.now in
    let index = c.loop-run.run-index in
    let none : Run = record { count = 0; writer = None } in
    let run = get_or items index none in
    let same : same_origin c.loop-run.origin (wrote run.writer) ≡ true =
    rw c.wrote.ensures at (sym c.same_origin.ensures ∙ c.if-same_origin.true) in
    rw c.in_ok-count.ensures (run-on c.loop-run.text.items c.loop-run.count c.loop-run.origin run
    (drop (index + 1) items) same
    ∙ (rw (drop_more items index none c.loop-run-test.true) at c.loop-run.invariant))

-- one of another ends it
pub loop-run-preserved : goal.loop-run-preserved
loop-run-preserved c =
    let items = c.args.more.now in
    let index = c.loop-run.run-index in
    let none : Run = record { count = 0; writer = None } in
    let run = get_or items index none in
    let other : same_origin c.loop-run.origin (wrote run.writer) ≡ false =
    rw c.wrote.ensures at (sym c.same_origin.ensures ∙ c.if-same_origin.false) in
    rw c.wrote-origin-in-loop-run.ensures (run-ended c.loop-run.text.items c.loop-run.count
    c.loop-run.origin run (drop (index + 1) items) c.push_ended.new.text.items other
    (c.requires index none c.loop-run-test.true) c.in_ok-push_ended.ensures
    ∙ (rw (drop_more items index none c.loop-run-test.true) at c.loop-run.invariant))
