-- The run is the one that the seed's words pick, and the text is its report and its events.
use Rattle.lab_model.proofs.Common.{◌∙◌, ap, IfOk-weaker}
use Rattle.lab_any.specs.Any.{any_meaning}
use Rattle.dmlab_run.specs.Answering.{told_of}
use Rattle.dmlab_run.specs.Lines.{done_with}
use Rattle.dmlab_run.proofs.AnswerLemmas.{simulates-plain}
use Rattle.dmlab_run.proofs.simulated.plain_run.Goals as goal

pub returns : goal.returns
returns c = IfOk-weaker c.done.result _ _
    (λ answer told. simulates-plain any_meaning c.args.accepted c.args.prompt c.args.seed
    c.args.history c.args.asked c.in_ok-lab.lab (told_of answer) c.in_ok-lab.ensures.paced
    c.in_ok-lab.ensures.done c.requires (told ∙ ap done_with c.in_ok-text.ensures)) c.done.ensures
