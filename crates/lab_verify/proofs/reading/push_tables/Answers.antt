-- The fault of one table more is added.
use Rattle.lab_model.proofs.Common.{arith, get_or, map, part_of, slice_get-get_or}
use Rattle.lab_refusal.specs.Faults.{fault_seen}
use Rattle.lab_verify.specs.ReadFaults.{table_fault}
use Rattle.lab_verify.proofs.FoundFaults.{added-more}
use Rattle.lab_verify.proofs.ReadTexts.{blank}
use Rattle.lab_verify.proofs.reading.push_tables.Goals as goal

pub loop-part-preserved : goal.loop-part-preserved
loop-part-preserved g c =
    let tables = c.args.tables.now in
    added-more (table_fault g.T.Target.meaning) part_of tables (map fault_seen c.args.faults.now.items)
    (map fault_seen c.loop-part.faults.items) (map fault_seen c.push_found.new.faults.items)
    c.loop-part.part-index (get_or tables c.loop-part.part-index blank) _
    (slice_get-get_or tables c.loop-part.part-index blank (omega arith)) c.loop-part.invariant
    c.in_ok-table_fault.ensures c.in_ok-push_found.ensures
