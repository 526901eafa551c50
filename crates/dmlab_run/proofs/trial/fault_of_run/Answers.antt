-- The fault is the one that is told.
use Rattle.std.proofs.Common.{rules, ◌≡◌, Some}
use Rattle.lab_refusal.specs.Faults.{fault_seen, told_by}
use Rattle.dmlab_run.proofs.trial.fault_of_run.Goals as goal

pub returns-in-Err-Fault-clause-fault : goal.returns-in-Err-Fault-clause-fault
returns-in-Err-Fault-clause-fault c =
    let told : told_by c.in-Err-Fault.field-0 ≡ Some (fault_seen c.in-Err-Fault.fault) = search rules in
    c.in-Err-Fault.ensures.refused _ told
