-- The faults of the tables gone over are added.
use Rattle.lab_model.proofs.Common.{◌≡◌, ◌++◌, filter_map, map, take, part_of}
use Rattle.lab_refusal.specs.Faults.{fault_seen}
use Rattle.lab_verify.specs.ReadFaults.{table_fault}
use Rattle.lab_verify.proofs.reading.push_tables.Given as goal

abbrev pub invariant-loop-part : goal.invariant-loop-part
invariant-loop-part g l = map fault_seen l.faults.items ≡ map fault_seen l.fn.faults.items
    ++ filter_map (λ fault. fault)
    (map (table_fault g.T.Target.meaning) (map part_of (take l.part-index l.tables)))
