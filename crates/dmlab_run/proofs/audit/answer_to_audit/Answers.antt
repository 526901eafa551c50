-- What is told of the run that the bytes are, or of their first fault, is the output.
use Rattle.lab_model.proofs.Common.{IfOk-weaker}
use Rattle.lab_any.specs.Any.{any_meaning}
use Rattle.dmlab_words.specs.declared.job.Job.TheVariants.{Audit}
use Rattle.dmlab_run.specs.Answering.{told_of}
use Rattle.dmlab_run.specs.Histories.{histories_of, history_read}
use Rattle.dmlab_run.specs.Output.{TellsJob}
use Rattle.dmlab_run.proofs.AnswerLemmas.{answers-bytes, refuses-bytes}
use Rattle.dmlab_run.proofs.audit.answer_to_audit.Goals as goal

pub returns-in-Ok : goal.returns-in-Ok
returns-in-Ok c = IfOk-weaker c.audited.result _ _
    (λ answer tells. answers-bytes any_meaning c.args.bytes.now
    (history_read (histories_of c.args.bytes.now)) (TellsJob any_meaning Audit) (told_of answer)
    c.in-Ok.accepted c.in-Ok.events.items c.in-Ok.ensures.accepted c.in-Ok.ensures.events
    (rw c.deref.ensures.value at tells)) c.audited.ensures

pub returns-in-Err : goal.returns-in-Err
returns-in-Err c = IfOk-weaker c.answer_to_refusal.result _ _
    (λ answer tells. refuses-bytes any_meaning c.args.bytes.now
    (history_read (histories_of c.args.bytes.now)) (TellsJob any_meaning Audit) (told_of answer)
    c.in-Err.refusal c.in-Err.ensures.refused tells) c.answer_to_refusal.ensures
