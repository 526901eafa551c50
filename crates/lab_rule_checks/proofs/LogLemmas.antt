-- The walk through a log's lines.
use Rattle.lab_model.proofs.Common.{rules, ◌≡◌, ◌∙◌, ℕ, ◌+◌, List, Some, None, ap, sym, fold, take}
use Rattle.lab_model.proofs.Common.{slice_get, arith, fold_more, get_or_from_slice_get}
use Rattle.lab_model.proofs.Common.{slice_get_within, Files, no_files}
use Rattle.lab_model.specs.declared.plan.LogLine.{LogLine}
use Rattle.lab_model.proofs.Common.{cases_lt, inl, inr, same_Some, subst}
use Rattle.lab_model.specs.declared.rule.Rule.{Rule}
use Rattle.lab_model.specs.declared.rule.Rule.TheVariants.{V12, V13, V14}
use Rattle.lab_rulebook.specs.LogRules.{Breaks, BreaksAt, files_after_line, files_at}
use Rattle.lab_rulebook.specs.Standing.{Standing}
use Rattle.lab_rule_checks.specs.Least.{TellsFirst}
use Rattle.lab_rule_checks.specs.Logs.{NoneBroken, log_rules}

-- where no rule is told, none is broken
pub none-told : {S : Type 0} (s : Standing S) (files : Files) (line : LogLine)
    → TellsFirst (Breaks s files line) log_rules None → (rule : Rule)
    → Breaks s files line rule → ⊥
none-told s files line given V12 holds = search rules
none-told s files line given V13 holds = search rules
none-told s files line given V14 holds = search rules
none-told s files line given rule holds = holds

-- the files after one more line
pub files-more : (files : Files) (lines : List LogLine) (place : ℕ) (line : LogLine)
    → slice_get lines place ≡ Some line → files ≡ fold files_after_line no_files (take place lines)
    → files_after_line files line ≡ fold files_after_line no_files (take (place + 1) lines)
files-more files lines place line at same = ap (λ before. files_after_line before line) same
    ∙ ap (files_after_line (fold files_after_line no_files (take place lines)))
    (sym (get_or_from_slice_get lines place line line at))
    ∙ sym (fold_more files_after_line no_files lines place line
    (slice_get_within lines place line at))

-- one more line, for which none is told, breaks no rule
pub none-more : {S : Type 0} (s : Standing S) (lines : List LogLine) (end : ℕ) (line : LogLine)
    (files : Files) → slice_get lines end ≡ Some line → NoneBroken s lines end
    → files ≡ files_at lines end → TellsFirst (Breaks s files line) log_rules None
    → NoneBroken s lines (end + 1)
none-more s lines end line files at none seen tells place other rule within broken =
    elim (cases_lt place end) [
      | inl less ↦ none place other rule less broken
      | inr enough ↦
          let here = subst (λ at. BreaksAt s lines at other rule)
          (omega (arith, enough, within)) broken in
          none-told s files line tells rule
          (subst (λ before. Breaks s before line rule) (sym seen)
          (subst (λ l. Breaks s (files_at lines end) l rule)
          (same_Some other line (sym here.0 ∙ at)) here.1))
    ]
