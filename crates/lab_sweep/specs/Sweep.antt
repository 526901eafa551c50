-- What is told of the runs of one scenario by many seeds (this project's own).
use Rattle.std.specs.Prelude.{◌≡◌, ℕ, ◌+◌, ◌-◌, List, [], ◌∷◌, Bool, length}
use Rattle.lab_target.specs.Meaning.{Meaning}
use Rattle.lab_model.specs.Scenario.{Scenario}
use Rattle.lab_sweep.specs.Told.{IsOutcomeOf}
use Rattle.lab_sweep.specs.declared.outcome.SeedOutcome.{SeedOutcome}
use Rattle.lab_sweep.specs.SweepLines.{sweep_text}

-- the outcomes are those of this seed and the ones after it, one after another, by reports or by
-- what stands on the disks
abbrev pub OutcomesFrom : {S : Type 0} → Meaning S → Scenario S → Bool → Bool → ℕ
    → List SeedOutcome → Type 0
OutcomesFrom m c prompt disks seed [] = Unit {0}
OutcomesFrom m c prompt disks seed (outcome ∷ outcomes) =
    IsOutcomeOf m c prompt disks seed outcome × OutcomesFrom m c prompt disks (seed + 1) outcomes

-- the text tells the outcome of each seed from the first to the last, none where the last comes
-- before the first, and then each digest
pub record IsSweep {S : Type 0} (m : Meaning S) (c : Scenario S) (prompt disks : Bool)
    (first last : ℕ) (text : List ℕ) : Type 0 where
  pub outcomes : List SeedOutcome
  pub all : length outcomes ≡ last + 1 - first
  pub each : OutcomesFrom m c prompt disks first outcomes
  pub told : text ≡ sweep_text outcomes
