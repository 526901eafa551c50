-- The run is the one that the seed's words pick, and the text is of its disks.
use Rattle.lab_model.proofs.Common.{IfOk-weaker}
use Rattle.lab_any.specs.Any.{any_meaning}
use Rattle.dmlab_run.proofs.StudyLemmas.{disks-seed}
use Rattle.dmlab_run.proofs.disks.seed_disks.Goals as goal

pub returns : goal.returns
returns c = IfOk-weaker c.disks_of_seed.result _ _
    (λ text told. disks-seed any_meaning c.args.accepted c.args.prompt c.args.seed text.items told)
    c.disks_of_seed.ensures.told
