-- The advice on the faults gone over is told.
use Rattle.lab_model.proofs.Common.{take}
use Rattle.std.specs.String.{string_bytes}
use Rattle.dmlab_run.specs.Tried.{AdvisesEach}
use Rattle.dmlab_run.proofs.telling.advice_each.Given as goal

abbrev pub invariant-loop-fault : goal.invariant-loop-fault
invariant-loop-fault l =
    AdvisesEach l.bytes (take l.fault-index l.faults) (string_bytes l.text)
