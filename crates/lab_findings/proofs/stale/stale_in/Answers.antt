-- The sectors that a claim and an answer have in common are counted.
use Rattle.lab_model.proofs.Common.{rules, ◌≡◌, ◌∙◌, ◌+◌, ◌++◌, ◌∷◌, ap, ap₂, sym, arith, length-replicate}
use Rattle.std.specs.Prelude.{replicate}
use Rattle.lab_watch.specs.Grids.{side_by_side, spelled_writers}
use Rattle.lab_findings.specs.Judged.{is_stale, stale_pairs}
use Rattle.lab_findings.specs.Wrongs.{joined, wrong_from}
use Rattle.lab_findings.proofs.Stales.{answers-done, claims-done, left-fewer, pairs-run}
use Rattle.lab_findings.proofs.Wrongs.{wrong-alike, wrong-step}
use Rattle.lab_findings.proofs.stale.stale_in.Goals as goal

-- one more part that both have in common is done
pub loop-claim-preserved : goal.loop-claim-preserved
loop-claim-preserved c =
    let deeds = c.args.deeds.now in
    let claim = c.loop-claim.claim in
    let got = c.loop-claim.got in
    let place = c.loop-claim.place in
    let wrong = c.loop-claim.wrong in
    let count = c.min-count.result in
    let claims = spelled_writers (c.in_ok-claim.field-0-0 ∷ c.in_ok-claim.field-0-1.now) in
    let answers = spelled_writers (c.in_ok-got.field-0-0 ∷ c.in_ok-got.field-0-1.now) in
    let hit = is_stale deeds claim.writer got.writer in
    let claims_are : spelled_writers (claim ∷ c.loop-claim.claims_left.now)
    ≡ side_by_side count claim.writer ++ claims = c.in_ok-claim.ensures.same (omega arith) in
    let answers_are : spelled_writers (got ∷ c.loop-claim.answers_left.now)
    ≡ side_by_side count got.writer ++ answers = c.in_ok-got.ensures.same (omega arith) in
    let more : c.all_wrong.result ≡ wrong_from place (replicate count hit) =
    rw c.is_stale-hit.ensures at c.all_wrong.ensures ∙ sym (wrong-alike place count hit) in
    let next : c.in_ok-place.place ≡ place + count = search rules in
    record {
      so_far = wrong-step place c.in_ok-place.place (replicate count hit)
          (stale_pairs deeds claims answers) wrong c.all_wrong.result c.in_ok-wrong.wrong _ more
          c.in_ok-wrong.ensures (next ∙ ap (λ n. place + n) (sym (length-replicate count hit)))
          (ap (λ all. joined wrong (wrong_from place all))
          (sym (pairs-run deeds count claim.writer got.writer claims answers)
          ∙ sym (ap₂ (stale_pairs deeds) claims_are answers_are))
          ∙ c.loop-claim.invariant.so_far);
      claims_done = c.in_ok-claim.ensures.none;
      answers_done = c.in_ok-got.ensures.none;
    }

-- fewer claims are left
pub loop-claim-smaller : goal.loop-claim-smaller
loop-claim-smaller c =
    left-fewer c.min-count.result c.loop-claim.claim.writer
    (spelled_writers (c.loop-claim.claim ∷ c.loop-claim.claims_left.now))
    (spelled_writers (c.in_ok-claim.field-0-0 ∷ c.in_ok-claim.field-0-1.now)) (omega arith)
    (c.in_ok-claim.ensures.same (omega arith))

-- no answer is left
pub returns-else-got-gt0 : goal.returns-else-got-gt0
returns-else-got-gt0 c =
    answers-done c.args.deeds.now c.loop-claim.place c.loop-claim.wrong _
    (spelled_writers (c.loop-claim.claim ∷ c.loop-claim.claims_left.now))
    (spelled_writers (c.loop-claim.got ∷ c.loop-claim.answers_left.now))
    (c.loop-claim.invariant.answers_done (omega arith)) c.loop-claim.invariant.so_far

-- no claim is left
pub returns-after-loop-claim : goal.returns-after-loop-claim
returns-after-loop-claim c =
    claims-done c.args.deeds.now c.loop-claim.place c.loop-claim.wrong _
    (spelled_writers (c.loop-claim.claim ∷ c.loop-claim.claims_left.now))
    (spelled_writers (c.loop-claim.got ∷ c.loop-claim.answers_left.now))
    (c.loop-claim.invariant.claims_done (omega arith)) c.loop-claim.invariant.so_far
