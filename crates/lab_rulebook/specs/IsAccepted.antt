-- A scenario that was accepted (this project's own).
use Rattle.std.specs.Prelude.{◌≡◌, ℕ}
use Rattle.lab_target.specs.Meaning.{Meaning}
use Rattle.lab_model.specs.Cost.{budget}
use Rattle.lab_model.specs.Scenario.{Scenario}
use Rattle.lab_rulebook.specs.Accepted.{Accepted}
use Rattle.lab_rulebook.specs.Walked.{scenario_of}
use Rattle.lab_rulebook.specs.PartsOf.{IsReadable, Texts, parts_of_texts}

-- a scenario that was accepted, and the most events that a run of it takes
pub record Verified (S : Type 0) : Type 0 where
  pub scenario : Scenario S
  pub budget : ℕ

-- some texts can be read, a scenario is what they say, none of their rules is broken, and this is
-- its budget
pub record IsAccepted {S : Type 0} (m : Meaning S) (c : Scenario S) (most : ℕ) : Type 0 where
  pub texts : Texts
  pub readable : IsReadable m texts
  pub said : c ≡ scenario_of m (parts_of_texts m texts)
  pub keeps : Accepted m (parts_of_texts m texts)
  pub budget : most ≡ budget m c
