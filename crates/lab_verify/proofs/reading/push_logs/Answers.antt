-- The fault of one log more is added.
use Rattle.lab_model.proofs.Common.{arith, get_or, map, part_of, slice_get-get_or}
use Rattle.lab_refusal.specs.Faults.{fault_seen}
use Rattle.lab_verify.specs.ReadFaults.{log_fault}
use Rattle.lab_verify.proofs.FoundFaults.{added-more}
use Rattle.lab_verify.proofs.ReadTexts.{blank}
use Rattle.lab_verify.proofs.reading.push_logs.Goals as goal

pub loop-part-preserved : goal.loop-part-preserved
loop-part-preserved c =
    let logs = c.args.logs.now in
    added-more log_fault part_of logs (map fault_seen c.args.faults.now.items)
    (map fault_seen c.loop-part.faults.items) (map fault_seen c.push_found.new.faults.items)
    c.loop-part.part-index (get_or logs c.loop-part.part-index blank) _
    (slice_get-get_or logs c.loop-part.part-index blank (omega arith)) c.loop-part.invariant
    c.in_ok-log_fault.ensures c.in_ok-push_found.ensures
