-- The faults gone over are others.
use Rattle.lab_model.proofs.Common.{All, take}
use Rattle.lab_refusal.specs.Faults.{fault_seen}
use Rattle.dmlab_run.specs.Tried.{IsOther}
use Rattle.dmlab_run.proofs.beside.are_others.Given as goal

abbrev pub invariant-loop-other : goal.invariant-loop-other
invariant-loop-other l =
    All (λ other. IsOther l.spot (fault_seen l.fault) (fault_seen other)) (take l.other-index l.faults)
