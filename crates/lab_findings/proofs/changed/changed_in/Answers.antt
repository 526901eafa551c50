-- The sectors of one run after another are compared.
use Rattle.lab_model.proofs.Common.{rules, ◌≡◌, ◌∙◌, ◌+◌, ap, sym, drop, drop_more, get_or, None, map, length}
use Rattle.std.specs.Prelude.{take}
use Rattle.std.proofs.lemmas.List.{length-map}
use Rattle.lab_watch.specs.declared.row.Run.{Run}
use Rattle.lab_watch.specs.Grids.{spelled_writers}
use Rattle.lab_findings.specs.Changes.{byte_of, changed_hits, is_changed}
use Rattle.lab_findings.specs.Wrongs.{joined, wrong_from}
use Rattle.lab_findings.proofs.Changeds.{changed-run, drop-least, take-least}
use Rattle.lab_findings.proofs.Wrongs.{wrong-step}
use Rattle.lab_findings.proofs.changed.changed_in.Goals as goal

pub loop-run-preserved : goal.loop-run-preserved
loop-run-preserved c =
    let items = c.runs-run-items.result.now in
    let index = c.loop-run.run-index in
    let none : Run = record { count = 0; writer = None } in
    let run = get_or items index none in
    let deeds = c.args.deeds.now in
    let place = c.loop-run.place in
    let wrong = c.loop-run.wrong in
    let rest = c.loop-run.rest.now in
    let rows = spelled_writers (drop (index + 1) items) in
    let at = drop_more items index none c.loop-run-test.true in
    let front : c.split_at.result.0.now ≡ take run.count rest =
    c.split_at.ensures.front ∙ ap (λ n. take n rest) c.min-count.ensures ∙ take-least run.count rest in
    let back : c.split_at.result.1.now ≡ drop run.count rest =
    c.split_at.ensures.back ∙ ap (λ n. drop n rest) c.min-count.ensures ∙ drop-least run.count rest in
    let hits = map (λ sector. is_changed (byte_of deeds run.writer) sector) (take run.count rest) in
    let behind = changed_hits deeds rows (drop run.count rest) in
    let more = rw (c.byte_of.ensures, front) at c.in_ok-changed_of.ensures in
    let next : c.in_ok-place.place ≡ place + c.min-count.result = search rules in
    let counted : length hits ≡ c.min-count.result =
    length-map (take run.count rest) (λ sector. is_changed (byte_of deeds run.writer) sector)
    ∙ ap length (sym front) ∙ c.split_at.ensures.front_len in
    ap (λ left. joined c.in_ok-wrong.wrong (wrong_from c.in_ok-place.place (changed_hits deeds rows left))) back
    ∙ wrong-step place c.in_ok-place.place hits behind wrong c.in_ok-changed_of.field-0
    c.in_ok-wrong.wrong _ more c.in_ok-wrong.ensures
    (next ∙ ap (λ n. place + n) (sym counted))
    (ap (λ all. joined wrong (wrong_from place all))
    (sym (changed-run deeds run.count run.writer rows rest))
    ∙ ap (λ left. joined wrong (wrong_from place (changed_hits deeds (spelled_writers left) rest)))
    (sym at) ∙ c.loop-run.invariant)
