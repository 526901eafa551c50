-- The sectors of one run after another are counted.
use Rattle.lab_model.proofs.Common.{rules, ◌≡◌, ◌∙◌, ◌+◌, ap, sym, drop, drop_more, get_or, None}
use Rattle.lab_model.proofs.Common.{length-replicate}
use Rattle.std.specs.Prelude.{replicate}
use Rattle.lab_watch.specs.declared.row.Run.{Run}
use Rattle.lab_watch.specs.Grids.{spelled_writers}
use Rattle.lab_findings.specs.Judged.{is_misplaced, misplaced_hits}
use Rattle.lab_findings.specs.Wrongs.{joined, wrong_from}
use Rattle.lab_findings.proofs.Alike.{misplaced-run}
use Rattle.lab_findings.proofs.Wrongs.{wrong-alike, wrong-step}
use Rattle.lab_findings.proofs.misplaced.misplaced_in.Goals as goal

pub loop-run-preserved : goal.loop-run-preserved
loop-run-preserved c =
    let items = c.runs-run-items.result.now in
    let index = c.loop-run.run-index in
    let none : Run = record { count = 0; writer = None } in
    let run = get_or items index none in
    let deeds = c.args.deeds.now in
    let device = c.args.device in
    let place = c.loop-run.place in
    let wrong = c.loop-run.wrong in
    let rest = spelled_writers (drop (index + 1) items) in
    let hit = is_misplaced deeds device place run.writer in
    let hits = replicate run.count hit in
    let behind = misplaced_hits deeds device (place + run.count) rest in
    let at = drop_more items index none c.loop-run-test.true in
    let next : c.in_ok-place.place ≡ place + run.count = search rules in
    let more : c.all_wrong.result ≡ wrong_from place hits =
    rw c.is_misplaced-hit.ensures at c.all_wrong.ensures ∙ sym (wrong-alike place run.count hit) in
    ap (λ n. joined c.in_ok-wrong.wrong (wrong_from n (misplaced_hits deeds device n rest))) next
    ∙ wrong-step place (place + run.count) hits behind wrong c.all_wrong.result
    c.in_ok-wrong.wrong _ more c.in_ok-wrong.ensures
    (ap (λ n. place + n) (sym (length-replicate run.count hit)))
    (ap (λ all. joined wrong (wrong_from place all))
    (sym (misplaced-run deeds device place run.count run.writer rest))
    ∙ ap (λ left. joined wrong
    (wrong_from place (misplaced_hits deeds device place (spelled_writers left))))
    (sym at) ∙ c.loop-run.invariant)
