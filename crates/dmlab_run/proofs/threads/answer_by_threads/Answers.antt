-- The run is one of the scenario that the bytes are, or their first fault is told.
use Rattle.lab_model.proofs.Common.{[], ap, refl, sym, Ok, subst, IfOk-weaker}
use Rattle.lab_any.specs.Any.{any_meaning}
use Rattle.dmlab_run.specs.Answering.{told_of}
use Rattle.dmlab_run.specs.Lines.{Output}
use Rattle.dmlab_run.specs.Threads.{RunsByThreads, TellsThreads}
use Rattle.dmlab_run.proofs.AnswerLemmas.{done-itself, answers-bytes, refuses-bytes}
use Rattle.dmlab_run.proofs.threads.answer_by_threads.Goals as goal

pub returns-in_ok-run_accepted-in-Ok : goal.returns-in_ok-run_accepted-in-Ok
returns-in_ok-run_accepted-in-Ok g c = IfOk-weaker c.done.result _ _
    (λ answer told. answers-bytes any_meaning c.args.bytes.now (Ok [])
    (TellsThreads any_meaning c.args.history) (told_of answer) c.in-Ok.accepted
    [] c.in-Ok.ensures.accepted refl (
      done-itself (told_of answer) _ told,
      subst (RunsByThreads any_meaning c.in-Ok.accepted.scenario c.args.history)
          (sym (ap (λ (t : Output). t.text) told)) c.in_ok-run_accepted-in-Ok.ensures,
    )) c.done.ensures

pub returns-in-Err : goal.returns-in-Err
returns-in-Err g c = IfOk-weaker c.answer_to_refusal.result _ _
    (λ answer told. refuses-bytes any_meaning c.args.bytes.now (Ok [])
    (TellsThreads any_meaning c.args.history) (told_of answer) c.in-Err.refusal
    c.in-Err.ensures.refused told) c.answer_to_refusal.ensures
