-- The lines of the faults gone over are written.
use Rattle.lab_model.proofs.Common.{◌≡◌, ◌++◌, flat_map, take}
use Rattle.lab_refusal.specs.Faults.{fault_seen}
use Rattle.dmlab_run.specs.Lines.{refused_for}
use Rattle.dmlab_run.proofs.all.push_faults.Given as goal

abbrev pub invariant-loop-fault : goal.invariant-loop-fault
invariant-loop-fault l = l.text.items ≡ l.fn.text.items
    ++ flat_map (λ fault. (refused_for (fault_seen fault)).text) (take l.fault-index l.faults)
