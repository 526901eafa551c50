-- What is told is the trace, or why there is none.
use Rattle.lab_model.proofs.Common.{IfOk-weaker}
use Rattle.lab_any.specs.Any.{any_meaning}
use Rattle.dmlab_run.specs.Answering.{told_of}
use Rattle.dmlab_run.proofs.StudyLemmas.{traces-tried}
use Rattle.dmlab_run.proofs.studies.trace_of_events.Goals as goal

pub returns : goal.returns
returns c = IfOk-weaker c.answer_of_run.result _ _ (λ answer tells. traces-tried any_meaning
    c.args.accepted.scenario c.args.events.now (told_of answer) _ c.trace_events.ensures.told
    c.trace_events.ensures.complete c.trace_events.ensures.fault tells) c.answer_of_run.ensures
