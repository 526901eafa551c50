-- The run is put behind the others, or it and the last one are one.
use Rattle.std.proofs.Common.{◌∙◌, ap}
use Rattle.lab_watch.specs.Grids.{spelled_writers}
use Rattle.lab_watch.proofs.Runs.{spelled-both, spelled-joined}
use Rattle.lab_watch.proofs.row.push_joined.Goals as goal

pub returns-in-Some-clause-pushed : goal.returns-in-Some-clause-pushed
returns-in-Some-clause-pushed c = ap spelled_writers c.in_ok-push.ensures.items
    ∙ spelled-joined c.args.runs.now.items c.args.last c.args.run c.in-Some.joined
    c.in-Some.ensures

pub returns-clause-pushed : goal.returns-clause-pushed
returns-clause-pushed c = spelled-both c.args.runs.now.items c.push-2.new.self.items
    c.push-3.new.self.items c.args.last c.args.run c.in_ok-push-2.ensures.items
    c.in_ok-push-3.ensures.items
