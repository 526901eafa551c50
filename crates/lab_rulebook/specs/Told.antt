-- Which fault is told of a scenario that isn't accepted: the first in the order of the limits, the
-- script's lines, its end, the logs' lines and the budget; on one line the least number (this
-- project's own).
use Rattle.std.specs.Prelude.{◌≡◌, ◌⊎◌, ℕ, ◌<◌, List, [], ◌∷◌}
use Rattle.std.specs.Cmp.Lexicographic.{slice_cmp}
use Rattle.std.specs.Ordering.{nat_cmp}
use Rattle.std.specs.declared.cmp.Ordering.TheVariants.{Less}
use Rattle.lab_target.specs.Meaning.{Meaning}
use Rattle.lab_model.specs.declared.rule.Rule.{Rule}
use Rattle.lab_model.specs.declared.rule.Rule.TheVariants.{V15, V16}
use Rattle.lab_model.specs.Cost.{all_visits, budget}
use Rattle.lab_model.specs.Rules.{FaultSeen, of_budget, of_limits, of_log, of_script, rule_number}
use Rattle.lab_model.specs.Scenario.{LogPlan}
use Rattle.lab_model.specs.declared.plan.LogLine.{LogLine}
use Rattle.lab_script.specs.Script.{ScriptRow}
use Rattle.lab_rulebook.specs.Accepted.{Accepted, LineBreaks, LogBreaks}
use Rattle.lab_rulebook.specs.Limits.{WithinLimits, limit}
use Rattle.lab_rulebook.specs.Parts.{Parts}
use Rattle.lab_rulebook.specs.ScriptRules.{EndBreaks}
use Rattle.lab_rulebook.specs.Walked.{scenario_of, standing_after}

-- where a rule is broken
pub data Spot : Type 0 where
  -- V16
  at_limits : Spot
  -- a rule of the script's command of a place, counted from 0
  at_command : ℕ → Rule → Spot
  -- a rule at the script's end
  at_end : Rule → Spot
  -- a rule of the line of a place of a log of a number, both counted from 0
  at_line : ℕ → ℕ → Rule → Spot
  -- V15
  at_budget : Spot

-- where a spot stands in the order in which faults are told: limits, commands, the end, log lines,
-- the budget; then by log, by place and by the rule's number
abbrev pub key : Spot → List ℕ
key at_limits = 0 ∷ []
key (at_command place rule) = 1 ∷ place ∷ rule_number rule ∷ []
key (at_end rule) = 2 ∷ rule_number rule ∷ []
key (at_line log place rule) = 3 ∷ log ∷ place ∷ rule_number rule ∷ []
key at_budget = 4 ∷ []

-- one spot comes before another: in the first number in which their keys differ it has the lesser
abbrev pub ComesBefore : Spot → Spot → Type 0
ComesBefore a b = slice_cmp nat_cmp (key a) (key b) ≡ Less

module _ {S : Type 0} (m : Meaning S) (parts : Parts S) where
  -- the rule of a spot is broken there
  abbrev pub IsBroken : Spot → Type 0
  IsBroken at_limits = WithinLimits parts → ⊥
  IsBroken (at_command place rule) = (row : ScriptRow) × LineBreaks m parts place row rule
  IsBroken (at_end rule) = EndBreaks m parts (standing_after m parts parts.script) rule
  IsBroken (at_line number place rule) =
      (plan : LogPlan) × (line : LogLine) × LogBreaks m parts number place plan line rule
  IsBroken at_budget = (limit < budget m (scenario_of m parts))
      ⊎ (limit < all_visits m (scenario_of m parts))

  -- what a refusal tells of a spot where a rule is broken
  abbrev pub fault_told : (spot : Spot) → IsBroken spot → FaultSeen
  fault_told at_limits past = record { part = of_limits; line = 0; rule = V16 }
  fault_told (at_command place rule) (row, breaks) =
      record { part = of_script; line = row.number; rule = rule }
  fault_told (at_end rule) breaks = record { part = of_script; line = 0; rule = rule }
  fault_told (at_line number place rule) (plan, line, breaks) =
      record { part = of_log plan.name; line = line.number; rule = rule }
  fault_told at_budget past = record { part = of_budget; line = 0; rule = V15 }

  -- the fault that is told: a rule is broken at its spot, and none at a spot that comes before
  abbrev pub IsTold : FaultSeen → Type 0
  IsTold seen = (spot : Spot) × (broken : IsBroken spot) × (seen ≡ fault_told spot broken)
      × ((other : Spot) → IsBroken other → ComesBefore other spot → ⊥)

-- a scenario is accepted exactly where no rule is broken at any spot
pub record AcceptedHasNoFault {S : Type 0} (m : Meaning S) : Type 0 where
  pub none : (parts : Parts S) → Accepted m parts → (spot : Spot) → IsBroken m parts spot → ⊥
  pub accepted : (parts : Parts S) → ((spot : Spot) → IsBroken m parts spot → ⊥)
      → Accepted m parts
