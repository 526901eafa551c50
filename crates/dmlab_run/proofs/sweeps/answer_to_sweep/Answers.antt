-- What is told of the scenario that the bytes are, or of their first fault, is the output.
use Rattle.lab_model.proofs.Common.{[], refl, IfOk-weaker, Ok}
use Rattle.lab_any.specs.Any.{any_meaning}
use Rattle.dmlab_words.specs.declared.study.Study.TheVariants.{Sweep}
use Rattle.dmlab_run.specs.Answering.{told_of}
use Rattle.dmlab_run.specs.Studies.{TellsStudy}
use Rattle.dmlab_run.proofs.AnswerLemmas.{answers-bytes, refuses-bytes}
use Rattle.dmlab_run.proofs.sweeps.answer_to_sweep.Goals as goal

pub returns-in-Ok : goal.returns-in-Ok
returns-in-Ok g c =
    let seeds = c.args.seeds in
    let study =
    Sweep seeds.first seeds.last seeds.prompt c.args.asked c.args.by_line c.args.disks in
    IfOk-weaker c.seeds_told.result _ _ (λ answer told. answers-bytes any_meaning c.args.bytes.now
    (Ok []) (TellsStudy any_meaning study) (told_of answer) c.in-Ok.accepted []
    c.in-Ok.ensures.accepted refl told) c.seeds_told.ensures

pub returns-in-Err : goal.returns-in-Err
returns-in-Err g c =
    let seeds = c.args.seeds in
    let study =
    Sweep seeds.first seeds.last seeds.prompt c.args.asked c.args.by_line c.args.disks in
    IfOk-weaker c.answer_to_refusal.result _ _ (λ answer tells. refuses-bytes any_meaning
    c.args.bytes.now (Ok []) (TellsStudy any_meaning study) (told_of answer) c.in-Err.refusal
    c.in-Err.ensures.refused tells) c.answer_to_refusal.ensures
