-- What is accepted: that none of the rules is broken (this project's own). Which fault is told of
-- what isn't accepted is said beside it, in `Told`.
use Rattle.std.specs.Prelude.{◌≡◌, ℕ, ◌≤◌, Some, slice_get, take, IsSomeAnd}
use Rattle.lab_target.specs.Meaning.{Meaning}
use Rattle.lab_model.specs.declared.rule.Rule.{Rule}
use Rattle.lab_model.specs.Cost.{all_visits, budget}
use Rattle.lab_model.specs.Scenario.{LogPlan}
use Rattle.lab_model.specs.declared.plan.LogLine.{LogLine}
use Rattle.lab_script.specs.Script.{ScriptRow}
use Rattle.lab_script.specs.Task.{replay}
use Rattle.lab_rulebook.specs.Limits.{WithinLimits, limit}
use Rattle.lab_rulebook.specs.LogRules as logs
use Rattle.lab_rulebook.specs.Parts.{Parts}
use Rattle.lab_rulebook.specs.ScriptRules.{Breaks, EndBreaks}
use Rattle.lab_rulebook.specs.Standing.{Standing}
use Rattle.lab_rulebook.specs.Walked.{scenario_of, standing_after}

module _ {S : Type 0} (m : Meaning S) (parts : Parts S) where
  -- what stands before the command of a place, counted from 0
  abbrev pub standing_before : ℕ → Standing S
  standing_before place = standing_after m parts (take place parts.script)

  -- the command of a place breaks a rule where it stands
  abbrev pub LineBreaks : ℕ → ScriptRow → Rule → Type 0
  LineBreaks place row rule = (slice_get parts.script place ≡ Some row)
      × Breaks m parts (standing_before place) row.task rule

  -- the place of the replay
  abbrev pub ReplaysAt : ℕ → Type 0
  ReplaysAt place = IsSomeAnd (slice_get parts.script place) (λ row. row.task ≡ replay)

  -- the line of a place of a log of a number, both counted from 0, breaks a rule, by what stands at
  -- the replay
  abbrev pub LogBreaks : ℕ → ℕ → LogPlan → LogLine → Rule → Type 0
  LogBreaks number place plan line rule = (at : ℕ) × ReplaysAt at
      × (slice_get (scenario_of m parts).logs number ≡ Some plan)
      × logs.BreaksAt (standing_before at) plan.lines place line rule

  -- none of the rules V1 to V14 is broken
  pub record KeepsRules : Type 0 where
    -- V1 to V11
    pub script : (place : ℕ) (row : ScriptRow) (rule : Rule) → LineBreaks place row rule → ⊥
    -- V7 and V10 at the script's end
    pub ends : (rule : Rule) → EndBreaks m parts (standing_after m parts parts.script) rule → ⊥
    -- V12 to V14
    pub lines : (number place : ℕ) (plan : LogPlan) (line : LogLine) (rule : Rule)
        → LogBreaks number place plan line rule → ⊥

  -- a scenario is accepted: none of the rules V1 to V16 is broken
  pub record Accepted : Type 0 where
    -- V16
    pub limits : WithinLimits parts
    -- V1 to V14
    pub rules : KeepsRules
    -- V15
    pub budget : budget m (scenario_of m parts) ≤ limit
    pub visits : all_visits m (scenario_of m parts) ≤ limit
