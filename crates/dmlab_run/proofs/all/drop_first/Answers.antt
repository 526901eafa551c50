-- The first fault is removed, if there is one.
use Rattle.lab_model.proofs.Common.{◌∙◌}
use Rattle.dmlab_run.proofs.PartLemmas.{removed-first}
use Rattle.dmlab_run.proofs.all.drop_first.Goals as goal

pub returns-then-not-is_empty : goal.returns-then-not-is_empty
returns-then-not-is_empty c = c.remove.ensures.items ∙ removed-first c.args.faults.now.items
