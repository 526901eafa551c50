-- The faults of the tables, the script and the logs are added in turn.
use Rattle.lab_model.proofs.Common.{map, part_of}
use Rattle.lab_text.specs.Lines.{lines_of}
use Rattle.lab_verify.specs.ReadFaults.{log_fault, script_fault, table_fault}
use Rattle.lab_verify.proofs.FoundFaults.{found-whole}
use Rattle.lab_verify.proofs.reading.read_faults.Goals as goal

pub returns : goal.returns
returns g c =
    let bundle = c.args.bundle.now in
    found-whole (map (table_fault g.T.Target.meaning) (map part_of bundle.tables.items))
    (map log_fault (map part_of bundle.logs.items)) (script_fault (lines_of bundle.script.now))
    _ _ _ _ (rw (c.new-faults.ensures.items, c.deref.ensures.value) at c.in_ok-push_tables.ensures)
    c.in_ok-script_fault.ensures c.in_ok-push_found.ensures
    (rw c.deref-2.ensures.value at c.in_ok-push_logs.ensures)
