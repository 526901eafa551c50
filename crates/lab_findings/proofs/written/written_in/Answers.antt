-- The sectors of one run after another are counted.
use Rattle.lab_model.proofs.Common.{rules, ◌≡◌, ◌∙◌, ◌+◌, ap, sym, refl, drop, drop_more, get_or, None}
use Rattle.lab_model.proofs.Common.{is_some, length-replicate}
use Rattle.std.specs.Prelude.{replicate}
use Rattle.lab_watch.specs.declared.row.Run.{Run}
use Rattle.lab_watch.specs.Grids.{spelled_writers}
use Rattle.lab_findings.specs.Judged.{written_hits}
use Rattle.lab_findings.specs.Wrongs.{joined, wrong_from}
use Rattle.lab_findings.proofs.Alike.{map-run}
use Rattle.lab_findings.proofs.Wrongs.{wrong-alike, wrong-step}
use Rattle.lab_findings.proofs.written.written_in.Goals as goal

pub loop-run-preserved : goal.loop-run-preserved
loop-run-preserved c =
    let items = c.runs-run-items.result.now in
    let index = c.loop-run.run-index in
    let none : Run = record { count = 0; writer = None } in
    let run = get_or items index none in
    let place = c.loop-run.place in
    let wrong = c.loop-run.wrong in
    let rest = spelled_writers (drop (index + 1) items) in
    let hit = is_some run.writer in
    let at = drop_more items index none c.loop-run-test.true in
    let next : c.in_ok-place.place ≡ place + run.count = search rules in
    let more : c.all_wrong-more.result ≡ wrong_from place (replicate run.count hit) =
    rw c.is_some.ensures at c.all_wrong-more.ensures ∙ sym (wrong-alike place run.count hit) in
    wrong-step place c.in_ok-place.place (replicate run.count hit) (written_hits rest) wrong
    c.all_wrong-more.result c.in_ok-wrong.wrong _ more c.in_ok-wrong.ensures
    (next ∙ ap (λ n. place + n) (sym (length-replicate run.count hit)))
    (ap (λ all. joined wrong (wrong_from place all))
    (sym (map-run is_some (λ writer. refl) run.count run.writer rest))
    ∙ ap (λ left. joined wrong (wrong_from place (written_hits (spelled_writers left))))
    (sym at) ∙ c.loop-run.invariant)
