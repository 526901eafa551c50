-- The least rule of some rules, and then of others, is the least of all.
use Rattle.lab_model.proofs.Common.{rules, ◌≡◌, ◌∙◌, ◌⊎◌, ℕ, zero, suc, inl, inr, Bool, true, false}
use Rattle.lab_model.proofs.Common.{List, [], ◌∷◌, Option, Some, None, refl, sym, take, drop}
use Rattle.lab_model.proofs.Common.{Decides, not_from_Decides, Meaning}
use Rattle.lab_script.specs.Task.{task_of}
use Rattle.lab_script.specs.declared.command.Command.{Command}
use Rattle.lab_rulebook.specs.Parts.{Parts}
use Rattle.lab_rulebook.specs.ScriptRules.{Breaks}
use Rattle.lab_model.specs.declared.rule.Rule.{Rule}
use Rattle.lab_standing.specs.declared.standing.Standing.{Standing}
use Rattle.lab_standing.specs.Stands.{standing_of}
use Rattle.lab_rule_checks.specs.Least.{TellsFirst, script_rules}

-- a rule that its test finds broken is the one that is told
pub here : {P Q : Type 0} {b : Bool} {told : Option Rule} → Decides b P → b ≡ true
    → (P × (told ≡ told)) ⊎ Q
here d is = inl (d.0 is, refl)

-- one that its test doesn't find broken leaves it to those behind it
pub behind : {P Q R : Type 0} {b : Bool} → Decides b P → b ≡ false → R → Q ⊎ ((P → ⊥) × R)
behind {b = b} d is rest = inr (not_from_Decides b d is, rest)

-- a command breaks a rule of the script where it stands
abbrev pub BreaksHere : {S : Type 0} → Meaning S → Parts S → Standing S → Command → Rule
    → Type 0
BreaksHere m parts st command = Breaks m parts (standing_of m st) (task_of command)

module _ (Broken : Rule → Type 0) where
  -- a rule that is told of the first so many is told of all
  pub first-told : (count : ℕ) (rules : List Rule) {told : Option Rule} {rule : Rule}
      → told ≡ Some rule → TellsFirst Broken (take count rules) told
      → TellsFirst Broken rules (Some rule)
  first-told (suc count) (first ∷ rules) is (inl own) = inl (own.0, sym is ∙ own.1)
  first-told (suc count) (first ∷ rules) is (inr later) =
      inr (later.0, first-told count rules is later.1)
  first-told count rules is none = cc

  -- where none of these is broken, what is told of the others is told of all
  pub then-told : (count : ℕ) (rules : List Rule) {told : Option Rule} (rule : Option Rule)
      → told ≡ None
      → TellsFirst Broken (take count rules) told
      → TellsFirst Broken (drop count rules) rule
      → TellsFirst Broken rules rule
  then-told (suc count) (first ∷ rules) rule is (inl own) rest = let told = own.1 in cc
  then-told (suc count) (first ∷ rules) rule is (inr later) rest =
      inr (later.0, then-told count rules rule is later.1 rest)
  then-told zero rules rule is none rest = rest
  then-told (suc count) [] rule is none rest = rest

  -- where no rule on names or on tables is broken, what is told of those behind them is told of all
  pub past-tables : {names tables rule : Option Rule} → names ≡ None
      → TellsFirst Broken (take 3 script_rules) names → tables ≡ None
      → TellsFirst Broken (take 2 (drop 3 script_rules)) tables
      → TellsFirst Broken (drop 5 script_rules) rule
      → TellsFirst Broken script_rules rule
  past-tables no_name on_names no_table on_tables rest = search rules
