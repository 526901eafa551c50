-- The run is one of the scenario that the bytes are, or their first fault is told.
use Rattle.lab_model.proofs.Common.{rules, ◌∙◌, [], refl, subst, sym, true≢false, IfOk-weaker, Ok}
use Rattle.lab_any.specs.Any.{any_meaning}
use Rattle.dmlab_words.specs.declared.job.Job.TheVariants.{Sim}
use Rattle.dmlab_words.specs.declared.work.Work.TheVariants.{Alone}
use Rattle.dmlab_run.specs.Answering.{told_of}
use Rattle.dmlab_run.specs.Output.{IsOutput, TellsJob}
use Rattle.dmlab_run.proofs.AnswerLemmas.{Simulates-accepts, answers-bytes, refuses-bytes}
use Rattle.dmlab_run.proofs.work.tell_run.Goals as goal

pub returns-in-Ok : goal.returns-in-Ok
returns-in-Ok g c =
    let job = Sim c.args.seed c.args.history c.args.prompt c.args.asked in
    c.tell_if_any.ensures (Alone job) c.args.bytes.items
    (IfOk-weaker c.answer_to_run-answer.result _ _
    (λ answer run. subst (λ bytes. IsOutput any_meaning job bytes (told_of answer))
    c.as_slice.ensures.value (answers-bytes any_meaning c.as_slice.result.now (Ok [])
    (TellsJob any_meaning job) (told_of answer) c.in-Ok.accepted [] c.in-Ok.ensures.accepted refl run))
    c.answer_to_run-answer.ensures)
    (IfOk-weaker c.answer_to_run-answer.result _ _ (λ answer run refused.
    absurd (true≢false (sym refused ∙ Simulates-accepts any_meaning c.in-Ok.accepted.scenario
    c.args.prompt c.args.seed c.args.history c.args.asked (told_of answer) run)))
    c.answer_to_run-answer.ensures)

pub returns-in-Err : goal.returns-in-Err
returns-in-Err g c =
    let job = Sim c.args.seed c.args.history c.args.prompt c.args.asked in
    c.tell_if_any-in-Err.ensures (Alone job) c.args.bytes.items
    (IfOk-weaker c.answer_to_refusal-answer.result _ _
    (λ answer tells. subst (λ bytes. IsOutput any_meaning job bytes (told_of answer))
    c.as_slice.ensures.value (refuses-bytes any_meaning c.as_slice.result.now (Ok [])
    (TellsJob any_meaning job) (told_of answer) c.in-Err.refusal c.in-Err.ensures.refused tells))
    c.answer_to_refusal-answer.ensures)
    (IfOk-weaker c.answer_to_refusal-answer.result _ _
    (λ answer tells refused. search rules) c.answer_to_refusal-answer.ensures)
