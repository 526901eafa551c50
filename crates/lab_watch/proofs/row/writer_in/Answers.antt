-- The sector is one of a run, or so far behind it.
use Rattle.lab_model.proofs.Common.{◌∙◌, ◌+◌, ◌-◌, ap, sym, arith, drop, drop_more, get_or}
use Rattle.lab_model.proofs.Common.{None, IfOk-weaker}
use Rattle.lab_watch.specs.Grids.{spelled_writers}
use Rattle.lab_watch.specs.declared.row.Run.{Run}
use Rattle.lab_watch.proofs.Sectors.{behind-run, in-run}
use Rattle.lab_watch.proofs.row.writer_in.Goals as goal

pub loop-run-preserved : goal.loop-run-preserved
loop-run-preserved c =
    let runs = c.args.runs.now in
    let index = c.loop-run.run-index in
    let left = c.loop-run.left in
    let none : Run = record { count = 0; writer = None } in
    let run = get_or runs index none in
    let rest = spelled_writers (drop (index + 1) runs) in
    let at = drop_more runs index none c.loop-run-test.true in
    ap (λ n. get_or rest (left - n) None) c.from-count.ensures
    ∙ behind-run run.count run.writer rest left (omega arith)
    ∙ ap (λ all. get_or (spelled_writers all) left None) (sym at) ∙ c.loop-run.invariant

pub returns-then-left-count : goal.returns-then-left-count
returns-then-left-count c =
    let runs = c.args.runs.now in
    let index = c.loop-run.run-index in
    let left = c.loop-run.left in
    let none : Run = record { count = 0; writer = None } in
    let run = get_or runs index none in
    let rest = spelled_writers (drop (index + 1) runs) in
    let at = drop_more runs index none c.loop-run-test.true in
    IfOk-weaker c.behind.result _ _ (λ writer is. is
    ∙ in-run run.count run.writer rest left (omega arith)
    ∙ ap (λ all. get_or (spelled_writers all) left None) (sym at) ∙ c.loop-run.invariant)
    c.behind.ensures
