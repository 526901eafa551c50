-- The runs that are written and those that are left make the whole text.
use Rattle.lab_model.proofs.Common.{◌≡◌, ◌++◌, drop}
use Rattle.lab_watch.specs.Grids.{spelled_writers}
use Rattle.lab_trace.specs.Answered.{origin_runs_text, wrote}
use Rattle.lab_trace.proofs.answered.push_runs.Given as goal

abbrev pub invariant-loop-run : goal.invariant-loop-run
invariant-loop-run l =
    l.text.items ++ origin_runs_text l.count l.origin (spelled_writers (drop l.run-index l.more))
    ≡ l.fn.text.items ++ origin_runs_text l.fn.first.count (wrote l.fn.first.writer)
    (spelled_writers l.fn.more)
