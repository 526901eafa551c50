-- A run that goes on is one with the last, another is put behind the others.
use Rattle.std.proofs.Common.{◌∙◌, ap}
use Rattle.lab_watch.specs.Grids.{spelled_writers}
use Rattle.lab_watch.proofs.Runs.{spelled-push}
use Rattle.lab_watch.proofs.row.push_run.Goals as goal

pub returns-clause-pushed : goal.returns-clause-pushed
returns-clause-pushed c = ap spelled_writers c.in_ok-push.ensures.items
    ∙ spelled-push c.args.runs.now.items c.args.run
