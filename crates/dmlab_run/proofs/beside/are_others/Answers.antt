-- One fault more is another one, and at last all are.
use Rattle.lab_model.proofs.Common.{rules, List, All, arith, subst, take_all}
use Rattle.lab_refusal.specs.Faults.{fault_seen}
use Rattle.lab_refusal.specs.declared.fault.Fault.{Fault}
use Rattle.dmlab_run.specs.Tried.{IsOther}
use Rattle.dmlab_run.proofs.PartLemmas.{others-more}
use Rattle.dmlab_run.proofs.beside.are_others.Goals as goal

pub loop-other-preserved : goal.loop-other-preserved
loop-other-preserved c = others-more
    (λ other. IsOther c.args.spot (fault_seen c.args.fault.now) (fault_seen other))
    c.args.faults.now c.loop-other.other-index _ (omega arith) c.loop-other.invariant
    (c.in_ok-is_other.ensures (search rules))

pub returns : goal.returns
returns c = λ yes. subst (λ (told : List Fault). All (λ other. IsOther c.args.spot
    (fault_seen c.args.fault.now) (fault_seen other)) told)
    (take_all c.loop-other.other-index c.args.faults.now (omega arith)) c.loop-other.invariant
