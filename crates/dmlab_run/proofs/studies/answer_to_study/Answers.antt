-- The output of the study is that of its kind.
use Rattle.lab_model.proofs.Common.{subst, sym, IfOk-weaker}
use Rattle.lab_any.specs.Any.{any_meaning}
use Rattle.dmlab_words.specs.declared.study.Study.{Study}
use Rattle.dmlab_run.specs.Answering.{told_of}
use Rattle.dmlab_run.specs.Studies.{IsStudyOutput}
use Rattle.dmlab_run.proofs.studies.answer_to_study.Goals as goal

pub returns-in-Trace : goal.returns-in-Trace
returns-in-Trace g c = IfOk-weaker c.trace_by_seed.result _ _
    (λ answer is. subst (λ (study : Study). IsStudyOutput any_meaning study c.args.bytes.now
    (told_of answer)) (sym c.in-Trace.is) is) c.trace_by_seed.ensures

pub returns-in-TraceHistory : goal.returns-in-TraceHistory
returns-in-TraceHistory g c = IfOk-weaker c.trace_of_history.result _ _
    (λ answer is. subst (λ (study : Study). IsStudyOutput any_meaning study c.args.bytes.now
    (told_of answer)) (sym c.in-TraceHistory.is) is) c.trace_of_history.ensures

pub returns-in-Disks : goal.returns-in-Disks
returns-in-Disks g c = IfOk-weaker c.disks_by_seed.result _ _
    (λ answer is. subst (λ (study : Study). IsStudyOutput any_meaning study c.args.bytes.now
    (told_of answer)) (sym c.in-Disks.is) is) c.disks_by_seed.ensures

pub returns-in-DisksHistory : goal.returns-in-DisksHistory
returns-in-DisksHistory g c = IfOk-weaker c.disks_of_history.result _ _
    (λ answer is. subst (λ (study : Study). IsStudyOutput any_meaning study c.args.bytes.now
    (told_of answer)) (sym c.in-DisksHistory.is) is) c.disks_of_history.ensures

pub returns-in-Sweep : goal.returns-in-Sweep
returns-in-Sweep g c = IfOk-weaker c.answer_to_sweep.result _ _
    (λ answer is. subst (λ (study : Study). IsStudyOutput any_meaning study c.args.bytes.now
    (told_of answer)) (sym c.in-Sweep.is) is) c.answer_to_sweep.ensures
