-- The run is the one that the threads ended with, and the text is its report, its counts and its
-- events.
use Rattle.lab_model.proofs.Common.{IfOk-weaker}
use Rattle.dmlab_run.proofs.RunningLemmas.{runs-finished}
use Rattle.dmlab_run.proofs.threads.run_accepted.Goals as goal

pub returns : goal.returns
returns g c = IfOk-weaker c.text_of-text.result _ _
    (λ text told. runs-finished c.args.accepted.scenario c.args.history c.in_ok-finished.finished
    text.items c.in_ok-finished.ensures told) c.text_of-text.ensures
