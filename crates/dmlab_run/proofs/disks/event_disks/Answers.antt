-- What is told is what stands there, or why it is no run.
use Rattle.lab_model.proofs.Common.{IfOk-weaker}
use Rattle.lab_any.specs.Any.{any_meaning}
use Rattle.dmlab_run.specs.Answering.{told_of}
use Rattle.dmlab_run.proofs.StudyLemmas.{disks-tried}
use Rattle.dmlab_run.proofs.disks.event_disks.Goals as goal

pub returns : goal.returns
returns c = IfOk-weaker c.answer_of_run.result _ _ (λ answer tells. disks-tried any_meaning
    c.args.accepted.scenario c.args.events.now (told_of answer) _ c.disks_of_events.ensures.told
    c.disks_of_events.ensures.fault tells) c.answer_of_run.ensures
