-- The line is that of the fault.
use Rattle.lab_model.proofs.Common.{rules, IfOk-weaker}
use Rattle.lab_refusal.specs.Faults.{fault_seen}
use Rattle.dmlab_run.proofs.answer.answer_to_refusal.Goals as goal

pub returns-in-Fault : goal.returns-in-Fault
returns-in-Fault c = IfOk-weaker c.refused.result _ _
    (λ answer told. (fault_seen c.in-Fault.fault, search rules, told)) c.refused.ensures
