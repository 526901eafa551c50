-- One log after another is written.
use Rattle.lab_model.proofs.Common.{arith, sym, ◌∙◌, append-nil, drop_all, log_text, zip}
use Rattle.lab_model.proofs.Common.{length-zip}
use Rattle.lab_core.proofs.TextLemmas.{pair-written, zip-at}
use Rattle.lab_core.proofs.report.push_logs.Goals as goal

pub loop-place-preserved : goal.loop-place-preserved
loop-place-preserved c =
    let plans = c.args.plans.now in
    let logs = c.args.logs.now in
    let place = c.loop-place.place in
    pair-written log_text plans logs place c.index-plans-place.result c.index-logs-place.result
    c.loop-place.out.items c.push_log.new.out.items _
    (zip-at plans logs place c.index-plans-place.result c.index-logs-place.result (omega arith)
    (omega arith) c.index-plans-place.is c.index-logs-place.is)
    c.loop-place.invariant c.in_ok-push_log.ensures

-- no log is left
pub returns : goal.returns
returns c = sym (append-nil c.loop-place.out.items)
    ∙ (rw (drop_all c.loop-place.place (zip c.args.plans.now c.args.logs.now)
    (omega (arith, length-zip c.args.plans.now c.args.logs.now))) at c.loop-place.invariant)
