-- What was told is the answer to the job on the bytes.
use Rattle.lab_model.proofs.Common.{rules, subst, sym, IfOk-weaker}
use Rattle.lab_any.specs.Any.{any_meaning}
use Rattle.dmlab_words.specs.declared.job.Job.{Job}
use Rattle.dmlab_words.specs.declared.work.Work.TheVariants.{Alone}
use Rattle.dmlab_run.specs.Answering.{told_of}
use Rattle.dmlab_run.specs.Output.{IsOutput}
use Rattle.dmlab_run.proofs.work.tell_job.Goals as goal

pub returns-in-Check : goal.returns-in-Check
returns-in-Check g c = c.tell_if_any.ensures (Alone c.args.job) c.args.bytes.items
    (IfOk-weaker c.answer_to_check-answer.result _ _
    (λ answer is. subst (λ bytes. IsOutput any_meaning c.args.job bytes (told_of answer))
    c.as_slice.ensures.value (subst (λ (job : Job). IsOutput any_meaning job c.as_slice.result.now
    (told_of answer)) (sym c.in-Check.is) is)) c.answer_to_check-answer.ensures)
    (IfOk-weaker c.answer_to_check-answer.result _ _ (λ answer is refused. search rules)
    c.answer_to_check-answer.ensures)

pub returns-in-Audit : goal.returns-in-Audit
returns-in-Audit g c = c.tell_if_any-in-Audit.ensures (Alone c.args.job) c.args.bytes.items
    (IfOk-weaker c.answer_to_audit-answer.result _ _
    (λ answer is. subst (λ bytes. IsOutput any_meaning c.args.job bytes (told_of answer))
    c.as_slice-in-Audit.ensures.value
    (subst (λ (job : Job). IsOutput any_meaning job c.as_slice-in-Audit.result.now
    (told_of answer)) (sym c.in-Audit.is) is)) c.answer_to_audit-answer.ensures)
    (IfOk-weaker c.answer_to_audit-answer.result _ _
    (λ answer is refused. search rules) c.answer_to_audit-answer.ensures)
