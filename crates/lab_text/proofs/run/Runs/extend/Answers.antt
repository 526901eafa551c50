-- A run more is gone over, until no byte is left.
use Rattle.std.proofs.Common.{ap, ◌∙◌, ◌++◌, append_assoc, replicate}
use Rattle.lab_text.specs.Runs.{runs_list}
use Rattle.lab_text.proofs.RunsLemmas.{spelled-first}
use Rattle.lab_text.proofs.run.Runs.extend.Goals as goal

-- the bytes of the run are gone over then, too
pub loop-run-preserved : goal.loop-run-preserved
loop-run-preserved c =
    let run = c.in-Some.run' in
    let more = replicate run.count run.value in
    let done = c.loop-run.invariant in (
      done.0 ++ more,
      append_assoc done.0 more c.in-Some.after.now
          ∙ ap (λ rest. done.0 ++ rest)
          (spelled-first c.loop-run.rest.now c.in-Some.after.now run c.in-Some.ensures.first) ∙ done.1,
      λ before is. c.in_ok-push.ensures.ok (before ++ done.0) (done.2 before is)
          ∙ ap runs_list (append_assoc before done.0 more),
    )
