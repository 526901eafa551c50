-- The logs and their files, as the definitions of what is accepted see them (fio's manual).
use Rattle.std.specs.Prelude.{◌≡◌, ℕ, ◌<◌, List, [], ◌∷◌, length, Option, Some, slice_get}
use Rattle.std.specs.Option.{MatchOption}
use Rattle.lab_model.specs.declared.rule.Rule.{Rule}
use Rattle.lab_model.specs.declared.rule.Rule.TheVariants.{V12, V13, V14}
use Rattle.lab_model.specs.declared.plan.LogLine.{LogLine}
use Rattle.lab_rulebook.specs.LogRules.{Breaks, BreaksAt, files_at}
use Rattle.lab_rulebook.specs.Standing.{Standing}
use Rattle.lab_rule_checks.specs.Least.{TellsFirst}

-- the rules of a log's line, from the least number on
abbrev pub log_rules : List Rule
log_rules = V12 ∷ V13 ∷ V14 ∷ []

-- the first line of a log that breaks a rule: its number and the least rule that it breaks are told
pub record IsFirstBroken {S : Type 0} (s : Standing S) (lines : List LogLine) (told : ℕ × Rule)
    : Type 0 where
  pub place : ℕ
  pub line : LogLine
  pub is_line : slice_get lines place ≡ Some line
  pub number : told.0 ≡ line.number
  pub rule : TellsFirst (Breaks s (files_at lines place) line) log_rules (Some told.1)
  pub first : (earlier : ℕ) (other : LogLine) (rule : Rule) → earlier < place
      → BreaksAt s lines earlier other rule → ⊥

-- no line of a log before a place breaks a rule
abbrev pub NoneBroken : {S : Type 0} → Standing S → List LogLine → ℕ → Type 0
NoneBroken s lines end = (place : ℕ) (line : LogLine) (rule : Rule) → place < end
    → BreaksAt s lines place line rule → ⊥

-- what is told of a log: its first line that breaks a rule, if one does
abbrev pub TellsLine : {S : Type 0} → Standing S → List LogLine → Option (ℕ × Rule) → Type 0
TellsLine s lines told =
    MatchOption told (NoneBroken s lines (length lines)) (IsFirstBroken s lines)
