-- Those found, and those among the sectors that are left, are all; the sectors left get fewer.
use Rattle.lab_model.proofs.Common.{◌≡◌, [], ◌∷◌, length}
use Rattle.lab_watch.specs.Grids.{spelled_writers}
use Rattle.lab_findings.specs.Judged.{stale_pairs}
use Rattle.lab_findings.specs.Wrongs.{joined, wrong_from}
use Rattle.lab_findings.proofs.stale.stale_in.Given as goal

abbrev pub invariant-loop-claim : goal.invariant-loop-claim
invariant-loop-claim l = record {
  so_far : joined l.wrong (wrong_from l.place (stale_pairs l.deeds
      (spelled_writers (l.claim ∷ l.claims_left)) (spelled_writers (l.got ∷ l.answers_left))))
      ≡ wrong_from l.fn.first (stale_pairs l.fn.deeds l.fn.claims l.fn.answers);
  claims_done : l.claim.count ≡ 0 → spelled_writers (l.claim ∷ l.claims_left) ≡ [];
  answers_done : l.got.count ≡ 0 → spelled_writers (l.got ∷ l.answers_left) ≡ [];
}

abbrev pub decreases-loop-claim : goal.decreases-loop-claim
decreases-loop-claim l = length (spelled_writers (l.claim ∷ l.claims_left))
