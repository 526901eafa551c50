-- The run is the one that the seed's words pick, and the text is its trace.
use Rattle.lab_model.proofs.Common.{IfOk-weaker}
use Rattle.lab_any.specs.Any.{any_meaning}
use Rattle.dmlab_run.proofs.StudyLemmas.{traces-seed}
use Rattle.dmlab_run.proofs.studies.trace_of_seed.Goals as goal

pub returns : goal.returns
returns c = IfOk-weaker c.trace_seed.result _ _
    (λ text told. traces-seed any_meaning c.args.accepted c.args.prompt c.args.seed text.items told)
    c.trace_seed.ensures
