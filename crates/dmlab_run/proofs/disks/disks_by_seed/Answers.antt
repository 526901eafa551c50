-- What is told of the scenario that the bytes are, or of their first fault, is the output.
use Rattle.lab_model.proofs.Common.{[], ap, refl, sym, subst, IfOk-weaker, Ok}
use Rattle.lab_any.specs.Any.{any_meaning}
use Rattle.dmlab_words.specs.declared.study.Study.TheVariants.{Disks}
use Rattle.dmlab_run.specs.Answering.{told_of}
use Rattle.dmlab_run.specs.Lines.{Output}
use Rattle.dmlab_run.specs.Studies.{TellsStudy, DisksOfSeed}
use Rattle.dmlab_run.proofs.AnswerLemmas.{done-itself, answers-bytes, refuses-bytes}
use Rattle.dmlab_run.proofs.disks.disks_by_seed.Goals as goal

pub returns-in_ok-seed_disks-in-Ok : goal.returns-in_ok-seed_disks-in-Ok
returns-in_ok-seed_disks-in-Ok c =
    let study = Disks c.args.seed c.args.prompt in
    IfOk-weaker c.done.result _ _ (λ answer told. answers-bytes any_meaning c.args.bytes.now (Ok [])
    (TellsStudy any_meaning study) (told_of answer) c.in-Ok.accepted [] c.in-Ok.ensures.accepted
    refl (
      done-itself (told_of answer) _ told,
      subst (DisksOfSeed any_meaning c.in-Ok.accepted.scenario c.args.prompt c.args.seed)
          (sym (ap (λ (t : Output). t.text) told)) c.in_ok-seed_disks-in-Ok.ensures,
    )) c.done.ensures

pub returns-in-Err : goal.returns-in-Err
returns-in-Err c =
    let study = Disks c.args.seed c.args.prompt in
    IfOk-weaker c.answer_to_refusal.result _ _ (λ answer tells. refuses-bytes any_meaning
    c.args.bytes.now (Ok []) (TellsStudy any_meaning study) (told_of answer) c.in-Err.refusal
    c.in-Err.ensures.refused tells) c.answer_to_refusal.ensures
