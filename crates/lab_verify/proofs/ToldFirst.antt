-- Which fault is told: stage by stage, where nothing before it is broken.
use Rattle.lab_model.proofs.Common.{rules, ◌≡◌, ◌∙◌, ◌⊎◌, inl, inr, ℕ, ◌<◌, ◌≤◌, Some, refl, sym}
use Rattle.lab_model.proofs.Common.{subst, slice_get, same_Some, Meaning, all_visits, budget}
use Rattle.lab_model.proofs.Common.{LogPlan, List, [], ◌∷◌}
use Rattle.lab_model.specs.declared.plan.LogLine.{LogLine}
use Rattle.std.specs.Cmp.Lexicographic.{slice_cmp}
use Rattle.std.specs.Ordering.{nat_cmp}
use Rattle.std.specs.declared.cmp.Ordering.TheVariants.{Less}
use Rattle.lab_model.specs.declared.rule.Rule.{Rule}
use Rattle.lab_model.specs.declared.rule.Rule.TheVariants.{V15, V16}
use Rattle.lab_model.specs.Rules.{of_budget, of_limits, of_log, of_script, rule_number}
use Rattle.lab_script.specs.Script.{ScriptRow}
use Rattle.lab_rulebook.specs.Accepted.{Accepted, LineBreaks, LogBreaks, standing_before}
use Rattle.lab_rulebook.specs.Limits.{WithinLimits, limit}
use Rattle.lab_rulebook.specs.Parts.{Parts}
use Rattle.lab_rulebook.specs.ScriptRules.{Breaks, EndBreaks}
use Rattle.lab_rulebook.specs.Told.{ComesBefore, IsBroken, IsTold, Spot, at_budget, at_command}
use Rattle.lab_rulebook.specs.Told.{at_end, at_limits, at_line, key}
use Rattle.lab_rulebook.specs.Walked.{scenario_of, standing_after}
use Rattle.lab_verify.specs.Steps.{IsLeast}

-- of two keys the lesser has the lesser first number, or the same one and then the lesser others
pub first-less : (x y : ℕ) (xs ys : List ℕ) → slice_cmp nat_cmp (x ∷ xs) (y ∷ ys) ≡ Less
    → (x < y) ⊎ ((x ≡ y) × (slice_cmp nat_cmp xs ys ≡ Less))
first-less x y xs ys less = search rules

-- a key isn't less than itself
none-less : slice_cmp nat_cmp [] [] ≡ Less → ⊥
none-less less = cc

-- a rule at a place comes before another: its place does, or it is the same and its rule does
abbrev pub RuleBefore : ℕ → Rule → ℕ → Rule → Type 0
RuleBefore at least place rule =
    (at < place) ⊎ ((at ≡ place) × (rule_number least < rule_number rule))

-- by the keys of their places and rules
rule-order : (at : ℕ) (least : Rule) (place : ℕ) (rule : Rule)
    → slice_cmp nat_cmp (at ∷ rule_number least ∷ []) (place ∷ rule_number rule ∷ []) ≡ Less
    → RuleBefore at least place rule
rule-order at least place rule less =
    elim (first-less at place (rule_number least ∷ []) (rule_number rule ∷ []) less) [
      | inl sooner ↦ inl sooner
      | inr later ↦
          elim (first-less (rule_number least) (rule_number rule) [] [] later.1) [
            | inl sooner ↦ inr (later.0, sooner)
            | inr same ↦ absurd (none-less same.1)
          ]
    ]

-- of two log lines the first is the one of the lesser log, then place, then rule
line-order : (number place : ℕ) (rule : Rule) (other at : ℕ) (least : Rule)
    → ComesBefore (at_line other at least) (at_line number place rule)
    → (other < number) ⊎ ((other ≡ number) × RuleBefore at least place rule)
line-order number place rule other at least less =
    elim (first-less other number (at ∷ rule_number least ∷ []) (place ∷ rule_number rule ∷ [])
    (later-keys less)) [
      | inl sooner ↦ inl sooner
      | inr later ↦ inr (later.0, rule-order at least place rule later.1)
    ]
  where
    later-keys : slice_cmp nat_cmp (key (at_line other at least)) (key (at_line number place rule))
        ≡ Less → slice_cmp nat_cmp (other ∷ at ∷ rule_number least ∷ [])
        (number ∷ place ∷ rule_number rule ∷ []) ≡ Less
    later-keys same = same

module _ {S : Type 0} (m : Meaning S) (parts : Parts S) where
  -- no command breaks a rule
  abbrev pub CommandsFree : Type 0
  CommandsFree = (place : ℕ) (row : ScriptRow) (rule : Rule) → LineBreaks m parts place row rule → ⊥

  -- nothing at the end does
  abbrev pub EndFree : Type 0
  EndFree = (rule : Rule) → EndBreaks m parts (standing_after m parts parts.script) rule → ⊥

  -- no log line does
  abbrev pub LinesFree : Type 0
  LinesFree = (number place : ℕ) (plan : LogPlan) (line : LogLine) (rule : Rule)
      → LogBreaks m parts number place plan line rule → ⊥

  -- within the limits no command and nothing at the end breaks a rule
  pub record IsFine : Type 0 where
    pub fits : WithinLimits parts
    pub free : CommandsFree
    pub ends : EndFree

  -- past the limits
  pub told-limits : (WithinLimits parts → ⊥)
      → IsTold m parts (record { part = of_limits; line = 0; rule = V16 })
  told-limits past = (at_limits, past, refl, first)
    where
      first : (other : Spot) → IsBroken m parts other → ComesBefore other at_limits → ⊥
      first at_limits broken before = cc
      first other broken before = cc

  module _ (fits : WithinLimits parts) where
    -- the first command that breaks a rule, and the least rule
    pub told-command : (place : ℕ) (row : ScriptRow) (rule : Rule)
        → slice_get parts.script place ≡ Some row
        → IsLeast (Breaks m parts (standing_before m parts place) row.task) rule
        → ((earlier : ℕ) (other : ScriptRow) (broken : Rule) → earlier < place
        → LineBreaks m parts earlier other broken → ⊥)
        → IsTold m parts (record { part = of_script; line = row.number; rule = rule })
    told-command place row rule at is free =
        (at_command place rule, (row, (at, is.broken)), refl, first)
      where
        here : (other : ScriptRow) (broken : Rule) → rule_number broken < rule_number rule
            → LineBreaks m parts place other broken → ⊥
        here other broken less (found, holds) = is.least broken less
            (subst (λ (r : ScriptRow). Breaks m parts (standing_before m parts place) r.task broken)
            (same_Some other row (sym found ∙ at)) holds)

        by_order : (other : ℕ) (found : ScriptRow) (broken : Rule)
            → LineBreaks m parts other found broken → RuleBefore other broken place rule → ⊥
        by_order other found broken fault (inl less) = free other found broken less fault
        by_order other found broken fault (inr (same, less)) = here found broken less
            (subst (λ (p : ℕ). LineBreaks m parts p found broken) same fault)

        first : (other : Spot) → IsBroken m parts other
            → ComesBefore other (at_command place rule) → ⊥
        first at_limits past before = past fits
        first (at_command other broken) (found, fault) before =
            by_order other found broken fault (rule-order other broken place rule before)
        first other fault before = cc

    -- the least rule that is broken at the end
    pub told-end : CommandsFree → (rule : Rule)
        → IsLeast (EndBreaks m parts (standing_after m parts parts.script)) rule
        → IsTold m parts (record { part = of_script; line = 0; rule = rule })
    told-end free rule is = (at_end rule, is.broken, refl, first)
      where
        first : (other : Spot) → IsBroken m parts other → ComesBefore other (at_end rule) → ⊥
        first at_limits past before = past fits
        first (at_command place broken) (row, fault) before = free place row broken fault
        first (at_end broken) fault before = elim (first-less _ _ [] [] before) [
          | inl less ↦ is.least broken less fault
          | inr same ↦ none-less same.1
        ]
        first other fault before = cc

  module _ (fine : IsFine) where
    -- the first log line that breaks a rule, and the least rule
    pub told-line : (number place : ℕ) (rule : Rule) (plan : LogPlan) (line : LogLine)
        → LogBreaks m parts number place plan line rule
        → ((other at : ℕ) (found : LogPlan) (broken : LogLine) (least : Rule)
        → (other < number) ⊎ ((other ≡ number) × RuleBefore at least place rule)
        → LogBreaks m parts other at found broken least → ⊥)
        → IsTold m parts (record { part = of_log plan.name; line = line.number; rule = rule })
    told-line number place rule plan line breaks none =
        (at_line number place rule, (plan, line, breaks), refl, first)
      where
        first : (other : Spot) → IsBroken m parts other
            → ComesBefore other (at_line number place rule) → ⊥
        first at_limits past before = past fine.fits
        first (at_command place broken) (row, fault) before = fine.free place row broken fault
        first (at_end broken) fault before = fine.ends broken fault
        first (at_line other at least) (found, broken, fault) before =
            none other at found broken least
            (line-order number place rule other at least before) fault
        first at_budget fault before = cc

    module _ (lines : LinesFree) where
      -- the budget
      pub told-budget : (limit < budget m (scenario_of m parts))
          ⊎ (limit < all_visits m (scenario_of m parts))
          → IsTold m parts (record { part = of_budget; line = 0; rule = V15 })
      told-budget past = (at_budget, past, refl, first)
        where
          first : (other : Spot) → IsBroken m parts other → ComesBefore other at_budget → ⊥
          first at_limits past before = past fine.fits
          first (at_command place broken) (row, fault) before = fine.free place row broken fault
          first (at_end broken) fault before = fine.ends broken fault
          first (at_line number at least) (plan, line, fault) before =
              lines number at plan line least fault
          first at_budget fault before = cc

      -- or nothing is
      pub accepted-within : budget m (scenario_of m parts) ≤ limit
          → all_visits m (scenario_of m parts) ≤ limit → Accepted m parts
      accepted-within most visits = record {
        limits = fine.fits;
        rules = record { script = fine.free; ends = fine.ends; lines = lines };
        budget = most;
        visits = visits;
      }
