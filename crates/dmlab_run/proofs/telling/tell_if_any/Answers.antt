-- An answer is told, or none.
use Rattle.std.proofs.lemmas.Result.{IfOk-at_ok}
use Rattle.lab_any.specs.Any.{any_meaning}
use Rattle.dmlab_run.specs.Answering.{IsRefusalOf, told_of}
use Rattle.dmlab_run.specs.Threads.{IsOutputOf}
use Rattle.dmlab_run.proofs.RunningLemmas.{Works-told, Works-untold}
use Rattle.dmlab_run.proofs.telling.tell_if_any.Goals as goal

pub returns-in-Ok : goal.returns-in-Ok
returns-in-Ok g c work bundle is own =
    Works-told g.O.Write.contents work bundle c.args.bytes.now c.tell.result
    (told_of c.in-Ok.answer) c.args.output.now c.tell.new.output c.tell.ensures.fault
    c.tell.ensures.one_fault c.tell.ensures.order c.tell.ensures.writes
    (IfOk-at_ok (IsRefusalOf c.args.bytes.now bundle) c.in-Ok.is own)
    (IfOk-at_ok (λ a. IsOutputOf any_meaning work bundle (told_of a)) c.in-Ok.is is)

pub returns-in-Err : goal.returns-in-Err
returns-in-Err g c work bundle is own =
    Works-untold g.O.Write.contents work bundle c.args.output.now c.requires
