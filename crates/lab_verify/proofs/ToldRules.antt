-- The rules by their numbers. The rule that is told is the least that is broken, by the order in
-- which the rules are asked.
use Rattle.lab_model.proofs.Common.{rules, ◌≡◌, ◌<◌, ◌≤◌, ℕ, List, [], ◌∷◌, Option, Some, None, sym}
use Rattle.lab_model.proofs.Common.{arith, inl, inr, ap, refl, subst, In, none-some, same_Some}
use Rattle.lab_model.proofs.Common.{nat_tests, not, ◌==◌, true, Files, Meaning}
use Rattle.lab_model.specs.declared.plan.LogLine.{LogLine}
use Rattle.lab_model.specs.declared.rule.Rule.{Rule}
use Rattle.lab_model.specs.declared.rule.Rule.TheVariants.{V1, V2, V3, V4, V5, V6, V7, V8, V9, V10, V11}
use Rattle.lab_model.specs.declared.rule.Rule.TheVariants.{V12, V13, V14}
use Rattle.lab_model.specs.Rules.{FaultSeen, rule_number}
use Rattle.lab_rulebook.specs.Accepted.{standing_before}
use Rattle.lab_rulebook.specs.Told.{IsBroken, IsTold, Spot, at_budget, at_command, at_end}
use Rattle.lab_rulebook.specs.Told.{at_limits, at_line, fault_told}
use Rattle.lab_rulebook.specs.Walked.{standing_after}
use Rattle.lab_script.specs.Task.{Task}
use Rattle.lab_rulebook.specs.Parts.{Parts}
use Rattle.lab_rulebook.specs.ScriptRules.{Breaks, EndBreaks}
use Rattle.lab_rulebook.specs.Standing.{Standing}
use Rattle.lab_rulebook.specs.LogRules as logs
use Rattle.lab_rule_checks.specs.Least.{TellsFirst, script_rules}
use Rattle.lab_rule_checks.specs.Logs.{log_rules}
use Rattle.lab_verify.specs.Steps.{IsLeast}

-- rules whose numbers don't fall, from one on
abbrev pub Rises : ℕ → List Rule → Type 0
Rises least [] = Unit {0}
Rises least (rule ∷ rules) = (least ≤ rule_number rule) × Rises (rule_number rule) rules

-- some rules are all that can be broken, from the least number on
pub record AreAll (Broken : Rule → Type 0) (rules : List Rule) : Type 0 where
  pub rise : Rises 0 rules
  pub among : (rule : Rule) → Broken rule → In rule rules

-- none of them has a lesser number than the first
pub above : (least : ℕ) (rules : List Rule) → Rises least rules → (rule : Rule) → In rule rules
    → least ≤ rule_number rule
above least [] rise rule at = absurd at
above least (first ∷ rules) rise rule (inl same) =
    subst (λ r. least ≤ rule_number r) same rise.0
above least (first ∷ rules) rise rule (inr later) =
    omega (arith, rise.0, above (rule_number first) rules rise.1 rule later)

module _ (Broken : Rule → Type 0) where
  -- the rule that is told is broken, and none of a lesser number
  least-among : (least : ℕ) (rules : List Rule) → Rises least rules → (told : Rule)
      → TellsFirst Broken rules (Some told) → Broken told × ((other : Rule) → In other rules
      → rule_number other < rule_number told → Broken other → ⊥)
  least-among least [] rise told none = absurd (none-some told (sym none))
  least-among least (first ∷ rules) rise told (inl (broken, is)) =
      let same = same_Some told first is in (
        subst Broken (sym same) broken,
        λ other at less wrong. omega (
          arith,
          less,
          ap rule_number same,
          above least (first ∷ rules) rise other at,
          above (rule_number first) (first ∷ rules) (omega arith, rise.1) other at,
        ),
      )
  least-among least (first ∷ rules) rise told (inr (free, later)) =
      let rest = least-among (rule_number first) rules rise.1 told later in (
        rest.0,
        λ other at less wrong. elim at [
          | inl same ↦ free (subst Broken (sym same) wrong)
          | inr behind ↦ rest.1 other behind less wrong
        ],
      )

  -- and where none is told, none is broken
  none-among : (rules : List Rule) → TellsFirst Broken rules None → (other : Rule)
      → In other rules → Broken other → ⊥
  none-among [] none other at wrong = at
  none-among (first ∷ rules) (inl (broken, is)) other at wrong = none-some first is
  none-among (first ∷ rules) (inr (free, later)) other (inl same) wrong =
      free (subst Broken (sym same) wrong)
  none-among (first ∷ rules) (inr (free, later)) other (inr behind) wrong =
      none-among rules later other behind wrong

module _ {Broken : Rule → Type 0} {all : List Rule} (are : AreAll Broken all) where
  -- the rule that is told is the least that is broken
  pub least-told : (told : Rule) {o : Option Rule} → o ≡ Some told → TellsFirst Broken all o
      → IsLeast Broken told
  least-told told is tells =
      let least = least-among Broken 0 all are.rise told (rw is at tells) in record {
        broken = least.0;
        least = λ other less wrong. least.1 other (are.among other wrong) less wrong;
      }

  -- where none is told, none is broken
  pub none-told : {o : Option Rule} → o ≡ None → TellsFirst Broken all o → (rule : Rule)
      → Broken rule → ⊥
  none-told is tells rule wrong =
      none-among Broken all (rw is at tells) rule (are.among rule wrong) wrong

module _ {S : Type 0} (m : Meaning S) (parts : Parts S) (s : Standing S) where
  -- the rules that a command breaks are among those of a script's line
  pub script-among : (task : Task) (rule : Rule) → Breaks m parts s task rule
      → In rule script_rules
  script-among task V1 breaks = search rules
  script-among task V2 breaks = search rules
  script-among task V3 breaks = search rules
  script-among task V4 breaks = search rules
  script-among task V5 breaks = search rules
  script-among task V6 breaks = search rules
  script-among task V7 breaks = search rules
  script-among task V8 breaks = search rules
  script-among task V9 breaks = search rules
  script-among task V10 breaks = search rules
  script-among task V11 breaks = search rules
  script-among task rule breaks = absurd breaks

  -- so they are all that there are
  pub script-all : (task : Task) → AreAll (Breaks m parts s task) script_rules
  script-all task = record { rise = search rules; among = script-among task }

  -- and at the end V7 and V10 are
  end-among : (rule : Rule) → EndBreaks m parts s rule → In rule (V7 ∷ V10 ∷ [])
  end-among V7 breaks = inl refl
  end-among V10 breaks = inr (inl refl)
  end-among rule breaks = absurd breaks

  -- so they are all that there are
  pub end-all : AreAll (EndBreaks m parts s) (V7 ∷ V10 ∷ [])
  end-all = record { rise = search rules; among = end-among }

module _ {S : Type 0} (s : Standing S) (files : Files) (line : LogLine) where
  -- those of a log's line are the last three
  pub log-among : (rule : Rule) → logs.Breaks s files line rule → In rule log_rules
  log-among V12 breaks = inl refl
  log-among V13 breaks = inr (inl refl)
  log-among V14 breaks = inr (inr (inl refl))
  log-among rule breaks = absurd breaks

  -- so they are all that there are
  pub log-all : AreAll (logs.Breaks s files line) log_rules
  log-all = record { rise = search rules; among = log-among }

-- a number that isn't 0
some-number : (number : ℕ) → 1 ≤ number → not (number == 0) ≡ true
some-number number some = grind (arith, nat_tests)

module _ {S : Type 0} (m : Meaning S) (parts : Parts S) where
  -- the rule that is told of a spot has a number
  spot-numbered : (spot : Spot) (broken : IsBroken m parts spot)
      → not (rule_number (fault_told m parts spot broken).rule == 0) ≡ true
  spot-numbered at_limits broken = refl
  spot-numbered (at_command place rule) broken = some-number (rule_number rule)
      (above 1 script_rules (search rules) rule
      (script-among m parts (standing_before m parts place) broken.0.task rule broken.1.1))
  spot-numbered (at_end rule) broken = some-number (rule_number rule)
      (above 1 (V7 ∷ V10 ∷ []) (search rules) rule
      (end-among m parts (standing_after m parts parts.script) rule broken))
  spot-numbered (at_line number place rule) broken = some-number (rule_number rule)
      (above 1 log_rules (search rules) rule (log-among (standing_before m parts broken.2.0)
      (logs.files_at broken.0.lines place) broken.1 rule broken.2.3.1))
  spot-numbered at_budget broken = refl

  -- so has the rule that is told
  pub told-numbered : (seen : FaultSeen) → IsTold m parts seen
      → not (rule_number seen.rule == 0) ≡ true
  told-numbered seen told = subst (λ (fault : FaultSeen). not (rule_number fault.rule == 0) ≡ true)
      (sym told.2) (spot-numbered told.0 told.1)
