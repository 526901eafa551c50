-- The rules that a log's line can break, judged by what stands at the replay (fio's manual; the
-- rules and their numbers are this project's own).
use Rattle.std.specs.Prelude.{◌≡◌, ℕ, false, List, Some, IfSome, slice_get, take}
use Rattle.std.specs.Prelude.{fold}
use Rattle.std.specs.Option.{IsSomeAnd}
use Rattle.lab_model.specs.declared.entry.Entry.TheVariants.{Wait as WaitTime}
use Rattle.lab_model.specs.declared.rule.Rule.{Rule}
use Rattle.lab_model.specs.declared.rule.Rule.TheVariants.{V12, V13, V14}
use Rattle.lab_model.specs.declared.plan.LogLine.{LogLine}
use Rattle.lab_model.specs.Files.{Files, allows, files_after, no_files}
use Rattle.lab_model.specs.Fine.{HasTable, entry_end}
use Rattle.lab_model.specs.Sizes.{Reaches, size_at}
use Rattle.lab_rulebook.specs.Standing.{Standing}

-- the files after a line
abbrev pub files_after_line : Files → LogLine → Files
files_after_line files line = files_after files line.entry line.device

-- the files of a log before its line of a place, counted from 0
abbrev pub files_at : List LogLine → ℕ → Files
files_at lines place = fold files_after_line no_files (take place lines)

module _ {S : Type 0} (s : Standing S) where
  -- a line breaks a rule, with the files as they are before it
  abbrev pub Breaks : Files → LogLine → Rule → Type 0
  -- V12: the line is no wait, and names no device, or one without a live table
  Breaks files line V12 = elim line.entry [
    | WaitTime time ↦ ⊥
    | entry ↦ IfSome line.device (λ device. HasTable s.devices device → ⊥)
  ]
  -- V13: the file's state doesn't allow the line
  Breaks files line V13 = IsSomeAnd line.device (λ device. allows files device line.entry ≡ false)
  -- V14: the line's range goes past the size of its device
  Breaks files line V14 = IsSomeAnd line.device
      (λ device. Reaches (size_at s.disks s.devices device) (entry_end line.entry) → ⊥)
  Breaks files line _ = ⊥

  -- the log's line of a place breaks a rule
  abbrev pub BreaksAt : List LogLine → ℕ → LogLine → Rule → Type 0
  BreaksAt lines place line rule =
      (slice_get lines place ≡ Some line) × Breaks (files_at lines place) line rule
