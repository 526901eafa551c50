-- What is told is the report, or why there is none.
use Rattle.lab_model.proofs.Common.{IfOk-weaker}
use Rattle.lab_any.specs.Any.{any_meaning}
use Rattle.dmlab_run.specs.Answering.{told_of}
use Rattle.dmlab_run.proofs.AnswerLemmas.{audits-tried}
use Rattle.dmlab_run.proofs.audit.audited.Goals as goal

pub returns : goal.returns
returns c = IfOk-weaker c.answer_of_run.result _ _ (λ answer tells. audits-tried any_meaning
    c.args.accepted.scenario c.args.events.now (told_of answer) _ c.report_of_events.ensures.told
    c.report_of_events.ensures.fault tells) c.answer_of_run.ensures
