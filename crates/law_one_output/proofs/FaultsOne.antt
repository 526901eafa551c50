-- Of the rules that parts break one fault is told: the one that no other comes before, in an order
-- of keys that is decided. Some texts have one first fault, or none and one scenario.
use Rattle.lab_model.proofs.Common.{rules, ◌≡◌, ◌∙◌, sym, arith, Meaning, ℕ, inl, inr, List, []}
use Rattle.lab_model.proofs.Common.{◌∷◌, Some, None, get_or, map, ap, refl}
use Rattle.lab_model.proofs.Common.{suc, ◌≤◌, ◌-◌, append-nil, none-some, Scenario, kept_from}
use Rattle.lab_rulebook.specs.Parts.{Parts}
use Rattle.std.specs.Cmp.Lexicographic.{nat_list_cmp_total}
use Rattle.std.specs.Ordering.{ordering_reverse}
use Rattle.std.specs.FinMap.{nat_cmp-IsAntisymmetric, slice_cmp-IsAntisymmetric}
use Rattle.std.specs.declared.cmp.Ordering.{Ordering}
use Rattle.std.specs.declared.cmp.Ordering.TheVariants.{Less, Equal, Greater}
use Rattle.lab_rulebook.specs.Accepted.{standing_before}
use Rattle.lab_rulebook.specs.ScriptRules.{EndBreaks}
use Rattle.lab_rulebook.specs.Told.{ComesBefore, IsBroken, IsTold, Spot, at_budget, at_command}
use Rattle.lab_rulebook.specs.Told.{at_end, at_limits, at_line, fault_told, key}
use Rattle.lab_rulebook.specs.Walked.{standing_after}
use Rattle.lab_rulebook.specs.LogRules as logs
use Rattle.lab_rule_checks.specs.Least.{script_rules}
use Rattle.lab_rule_checks.specs.Logs.{log_rules}
use Rattle.lab_verify.proofs.ToldRules.{above, log-among, script-among}
use Rattle.lab_verify.proofs.ReadTexts.{first-behind, all-none, found-none}
use Rattle.lab_iolog.specs.Log.{log_of_lines}
use Rattle.lab_script.specs.Script.{rows_of}
use Rattle.lab_rulebook.proofs.ToldLemmas.{accepted-has-no-fault}
use Rattle.lab_table.specs.TableText.{each_known}
use Rattle.lab_rulebook.specs.PartsOf.{IsReadable, Texts, parts_of_texts, table_of_lines}
use Rattle.lab_rulebook.specs.IsAccepted.{Verified}
use Rattle.lab_model.specs.declared.rule.Rule.{Rule}
use Rattle.lab_model.specs.Rules.{FaultSeen, rule_number}
use Rattle.lab_refusal.specs.Faults.{log_told, script_told, table_told}
use Rattle.lab_verify.specs.ReadFaults.{first_fault, log_fault, read_fault, script_fault}
use Rattle.lab_verify.specs.ReadFaults.{table_fault}
use Rattle.lab_verify.specs.Verdict.{IsFirstFault, IsRuleFault, IsScenario}
use Rattle.lab_model.specs.declared.rule.Rule.TheVariants as rules

-- of two orders of which one is the other's reverse and none is less, both are equal
equal-order : (one other : Ordering) → one ≡ ordering_reverse other → (one ≡ Less → ⊥)
    → (other ≡ Less → ⊥) → one ≡ Equal
equal-order Less other is first second = absurd (first refl)
equal-order Equal other is first second = refl
equal-order Greater Less is first second = absurd (second refl)
equal-order Greater Equal is first second = cc
equal-order Greater Greater is first second = cc

-- spots of which none comes before the other have one key
keys-one : (a b : Spot) → (ComesBefore a b → ⊥) → (ComesBefore b a → ⊥) → key a ≡ key b
keys-one a b first second = slice_cmp-IsAntisymmetric nat_cmp-IsAntisymmetric (key a) (key b)
    (equal-order _ _ (nat_list_cmp_total.antisymm (key a) (key b)) first second)

-- ---- a rule by its number

-- the verifier's rules, each at its number
numbered_rules : List Rule
numbered_rules = rules.V1 ∷ rules.V1 ∷ rules.V2 ∷ rules.V3 ∷ rules.V4 ∷ rules.V5 ∷ rules.V6
    ∷ rules.V7 ∷ rules.V8 ∷ rules.V9 ∷ rules.V10 ∷ rules.V11 ∷ rules.V12 ∷ rules.V13 ∷ rules.V14
    ∷ rules.V15 ∷ rules.V16 ∷ []

-- the rule of a number
rule_of : ℕ → Rule
rule_of number = get_or numbered_rules number rules.V1

-- a rule that has a number is that of its number
rule-back : (rule : Rule) (number : ℕ) → rule_number rule ≡ suc number
    → rule_of (rule_number rule) ≡ rule
unfolding rule_of numbered_rules
rule-back rules.V1 number is = refl
rule-back rule number is = cc

-- so two rules of one number are one
rules-one : (one other : Rule) → 1 ≤ rule_number one → rule_number one ≡ rule_number other
    → one ≡ other
rules-one one other some same = sym (rule-back one (rule_number one - 1) (omega (arith, some)))
    ∙ ap rule_of same
    ∙ rule-back other (rule_number one - 1) (omega (arith, some, same))

module _ {S : Type 0} (m : Meaning S) (parts : Parts S) where
  -- a rule that is broken at the end has a number
  end-numbered : (rule : Rule) → EndBreaks m parts (standing_after m parts parts.script) rule
      → 1 ≤ rule_number rule
  end-numbered rules.V7 breaks = omega arith
  end-numbered rules.V10 breaks = omega arith
  end-numbered rule breaks = absurd breaks

  -- spots of one key tell one fault
  spot-one : (a b : Spot) (one : IsBroken m parts a) (other : IsBroken m parts b) → key a ≡ key b
      → fault_told m parts a one ≡ fault_told m parts b other
  spot-one at_limits at_limits one other same = refl
  spot-one (at_command place rule) (at_command at broken) one other same =
      let row : one.0 ≡ other.0 = cc in
      let rule_is : rule ≡ broken = rules-one rule broken (above 1 script_rules (search rules) rule
      (script-among m parts (standing_before m parts place) one.0.task rule one.1.1)) cc in cc
  spot-one (at_end rule) (at_end broken) one other same =
      let rule_is : rule ≡ broken = rules-one rule broken (end-numbered rule one) cc in cc
  spot-one (at_line number place rule) (at_line another at broken) one other same =
      let plan : one.0 ≡ other.0 = cc in
      let line : one.1 ≡ other.1 = cc in
      let rule_is : rule ≡ broken = rules-one rule broken (above 1 log_rules (search rules) rule
      (log-among (standing_before m parts one.2.0) (logs.files_at one.0.lines place) one.1 rule
      one.2.3.1)) cc in cc
  spot-one at_budget at_budget one other same = refl
  spot-one a b one other same = cc

  -- one fault is told
  pub told-one : (one other : FaultSeen) → IsTold m parts one → IsTold m parts other → one ≡ other
  told-one one other first second = first.2
      ∙ spot-one first.0 second.0 first.1 second.1
      (keys-one first.0 second.0 (λ before. second.3 first.0 first.1 before)
      (λ before. first.3 second.0 second.1 before)) ∙ sym second.2

-- ---- what is read has no fault of reading

module _ {S : Type 0} (m : Meaning S) (texts : Texts) where
  -- texts that can be read have no fault of reading
  readable-none : IsReadable m texts → read_fault m texts ≡ None
  readable-none readable = first-behind (table_fault m) texts.tables
      (script_fault texts.script ∷ map log_fault texts.logs)
      (all-none (λ text fault. table_told text.0 fault.line fault.why)
      (λ text. table_of_lines m each_known text.1) (λ text. text) texts.tables readable.tables)
      ∙ ap (λ fault. first_fault (fault ∷ map log_fault texts.logs))
      (found-none script_told (rows_of (kept_from 1 texts.script)) readable.script)
      ∙ sym (ap first_fault (append-nil (map log_fault texts.logs)))
      ∙ first-behind log_fault texts.logs []
      (all-none (λ text. log_told text.0) (λ text. log_of_lines text.1) (λ text. text) texts.logs
      readable.logs)

  -- so none is found in them
  pub readable-never-faulty : (seen : FaultSeen) → IsReadable m texts
      → read_fault m texts ≡ Some seen → ⊥
  readable-never-faulty seen readable is = none-some seen (sym (readable-none readable) ∙ is)

  -- of the rules that are broken one fault is told
  pub rule-fault-one : (one other : FaultSeen) → IsRuleFault m texts one
      → IsRuleFault m texts other → one ≡ other
  rule-fault-one one other first second =
      told-one m (parts_of_texts m texts) one other first.is_told second.is_told

  -- the first fault of all is one
  pub first-fault-one : (one other : FaultSeen) → IsFirstFault m texts one
      → IsFirstFault m texts other → one ≡ other
  first-fault-one one other (inl first) (inl second) = cc
  first-fault-one one other (inl first) (inr second) =
      absurd (readable-never-faulty one second.readable first)
  first-fault-one one other (inr first) (inl second) =
      absurd (readable-never-faulty other first.readable second)
  first-fault-one one other (inr first) (inr second) = rule-fault-one one other first second

  -- a scenario has no fault of the rules
  pub scenario-never-broken : (seen : FaultSeen) (accepted : Verified S)
      → IsRuleFault m texts seen → IsScenario m texts accepted → ⊥
  scenario-never-broken seen accepted broken scenario =
      (accepted-has-no-fault m).none (parts_of_texts m texts) scenario.keeps broken.is_told.0
      broken.is_told.1

  -- so it has no fault
  pub scenario-never-faulty : (seen : FaultSeen) (accepted : Verified S)
      → IsFirstFault m texts seen → IsScenario m texts accepted → ⊥
  scenario-never-faulty seen accepted (inl read) scenario =
      readable-never-faulty seen scenario.readable read
  scenario-never-faulty seen accepted (inr broken) scenario =
      scenario-never-broken seen accepted broken scenario

-- a scenario with its budget
verified : {S : Type 0} → Scenario S → ℕ → Verified S
verified c most = record { scenario = c; budget = most }

-- texts are one scenario, with one budget
pub scenario-one : {S : Type 0} (m : Meaning S) (texts : Texts) (one other : Verified S)
    → IsScenario m texts one → IsScenario m texts other → one ≡ other
unfolding verified
scenario-one m texts one other first second =
    search rules
