-- The faults of the logs gone over are added.
use Rattle.lab_model.proofs.Common.{◌≡◌, ◌++◌, filter_map, map, take, part_of}
use Rattle.lab_refusal.specs.Faults.{fault_seen}
use Rattle.lab_verify.specs.ReadFaults.{log_fault}
use Rattle.lab_verify.proofs.reading.push_logs.Given as goal

abbrev pub invariant-loop-part : goal.invariant-loop-part
invariant-loop-part l = map fault_seen l.faults.items ≡ map fault_seen l.fn.faults.items
    ++ filter_map (λ fault. fault) (map log_fault (map part_of (take l.part-index l.logs)))
