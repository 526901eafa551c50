-- What was told is the answer to the work on the bytes.
use Rattle.lab_model.proofs.Common.{rules, subst, sym, IfOk-weaker}
use Rattle.lab_any.specs.Any.{any_meaning}
use Rattle.dmlab_words.specs.declared.work.Work.{Work}
use Rattle.dmlab_run.specs.Answering.{told_of}
use Rattle.dmlab_run.specs.Threads.{IsOutputOf}
use Rattle.dmlab_run.proofs.work.tell_work.Goals as goal

pub returns-in-CheckAll : goal.returns-in-CheckAll
returns-in-CheckAll g c = c.tell_if_any.ensures c.args.work c.args.bytes.items
    (IfOk-weaker c.answer_to_check_all-answer.result _ _
    (λ answer is. subst (λ bytes. IsOutputOf any_meaning c.args.work bytes (told_of answer))
    c.as_slice.ensures.value (subst (λ (work : Work). IsOutputOf any_meaning work
    c.as_slice.result.now (told_of answer)) (sym c.in-CheckAll.is) is))
    c.answer_to_check_all-answer.ensures)
    (IfOk-weaker c.answer_to_check_all-answer.result _ _
    (λ answer is refused. search rules) c.answer_to_check_all-answer.ensures)

pub returns-in-Threads : goal.returns-in-Threads
returns-in-Threads g c = c.tell_if_any-in-Threads.ensures c.args.work c.args.bytes.items
    (IfOk-weaker c.answer_by_threads-answer.result _ _
    (λ answer is. subst (λ bytes. IsOutputOf any_meaning c.args.work bytes (told_of answer))
    c.as_slice-in-Threads.ensures.value (subst (λ (work : Work). IsOutputOf any_meaning work
    c.as_slice-in-Threads.result.now (told_of answer)) (sym c.in-Threads.is) is))
    c.answer_by_threads-answer.ensures)
    (IfOk-weaker c.answer_by_threads-answer.result _ _
    (λ answer is refused. search rules) c.answer_by_threads-answer.ensures)

pub returns-in-Study : goal.returns-in-Study
returns-in-Study g c = c.tell_if_any-in-Study.ensures c.args.work c.args.bytes.items
    (IfOk-weaker c.answer_to_study-answer.result _ _
    (λ answer is. subst (λ bytes. IsOutputOf any_meaning c.args.work bytes (told_of answer))
    c.as_slice-in-Study.ensures.value (subst (λ (work : Work). IsOutputOf any_meaning work
    c.as_slice-in-Study.result.now (told_of answer)) (sym c.in-Study.is) is))
    c.answer_to_study-answer.ensures)
    (IfOk-weaker c.answer_to_study-answer.result _ _
    (λ answer is refused. search rules) c.answer_to_study-answer.ensures)
