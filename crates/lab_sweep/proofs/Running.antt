-- From the outcomes of single seeds to those of many.
use Rattle.lab_model.proofs.Common.{◌≡◌, ◌∙◌, ℕ, ◌+◌, List, [], ◌∷◌, ◌++◌, Bool, length, subst, sym}
use Rattle.lab_model.proofs.Common.{arith, Meaning, Scenario}
use Rattle.std.proofs.Common.{add-zero}
use Rattle.lab_sweep.specs.Told.{IsOutcomeOf}
use Rattle.lab_sweep.specs.declared.outcome.SeedOutcome.{SeedOutcome}
use Rattle.lab_sweep.specs.Sweep.{OutcomesFrom}

module _ {S : Type 0} (m : Meaning S) where
  -- the outcome of the next seed comes after those before it
  pub outcomes-more : (c : Scenario S) (prompt disks : Bool) (first seed : ℕ)
      (outcomes : List SeedOutcome) (outcome : SeedOutcome)
      → OutcomesFrom m c prompt disks first outcomes → first + length outcomes ≡ seed
      → IsOutcomeOf m c prompt disks seed outcome
      → OutcomesFrom m c prompt disks first (outcomes ++ outcome ∷ [])
  outcomes-more c prompt disks first seed [] outcome before at next =
      (subst (λ (n : ℕ). IsOutcomeOf m c prompt disks n outcome) (sym at ∙ add-zero first) next, tt)
  outcomes-more c prompt disks first seed (one ∷ outcomes) outcome before at next = (
    before.0,
    outcomes-more c prompt disks (first + 1) seed outcomes outcome before.1 (omega (arith, at)) next,
  )
