-- The budget is that of the scenario that the bytes are, or their first fault is told.
use Rattle.lab_model.proofs.Common.{◌∙◌, ap, [], refl, Ok, IfOk-weaker, budget_text, text_line}
use Rattle.lab_any.specs.Any.{any_meaning}
use Rattle.dmlab_words.specs.declared.job.Job.TheVariants.{Check}
use Rattle.dmlab_run.specs.Answering.{told_of}
use Rattle.dmlab_run.specs.Lines.{done_with}
use Rattle.dmlab_run.specs.Output.{TellsJob}
use Rattle.dmlab_run.proofs.AnswerLemmas.{answers-bytes, refuses-bytes}
use Rattle.dmlab_run.proofs.answer.answer_to_check.Goals as goal

pub returns-in-Ok : goal.returns-in-Ok
returns-in-Ok c = IfOk-weaker c.budget_told.result _ _
    (λ answer told. answers-bytes any_meaning c.args.bytes.now (Ok []) (TellsJob any_meaning Check)
    (told_of answer) c.in-Ok.accepted [] c.in-Ok.ensures.accepted refl
    (told ∙ ap (λ budget. done_with (text_line (budget_text budget))) c.budget.ensures))
    c.budget_told.ensures

pub returns-in-Err : goal.returns-in-Err
returns-in-Err c = IfOk-weaker c.answer_to_refusal.result _ _
    (λ answer told. refuses-bytes any_meaning c.args.bytes.now (Ok []) (TellsJob any_meaning Check)
    (told_of answer) c.in-Err.refusal c.in-Err.ensures.refused told) c.answer_to_refusal.ensures
