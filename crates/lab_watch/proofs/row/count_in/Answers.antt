-- A run more has its own sectors more.
use Rattle.lab_model.proofs.Common.{◌+◌, ap, arith, drop, drop_more, get_or, length, None}
use Rattle.lab_watch.specs.Grids.{spelled_writers}
use Rattle.lab_watch.specs.declared.row.Run.{Run}
use Rattle.lab_watch.proofs.Rows.{length-spelled}
use Rattle.lab_watch.proofs.row.count_in.Goals as goal

pub loop-run-preserved : goal.loop-run-preserved
loop-run-preserved c =
    let runs = c.args.runs.now in
    let index = c.loop-run.run-index in
    let none : Run = record { count = 0; writer = None } in
    let at = ap (λ left. length (spelled_writers left))
    (drop_more runs index none c.loop-run-test.true) in
    let long = length-spelled (get_or runs index none) (drop (index + 1) runs) in
    record { so_far = omega arith; within = omega arith }
