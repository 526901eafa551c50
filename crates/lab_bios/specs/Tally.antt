-- How many living bios were made for each log (this project's own).
use Rattle.std.specs.Prelude.{◌≡◌, ℕ, ◌<◌, ◌==◌, ◌&&◌, Bool, false, cond, List, Option, nat_le, nat_lt}
use Rattle.std.specs.List.{count_by}
use Rattle.std.specs.List.Sorted.{IsNonDecreasing}
use Rattle.lab_model.specs.Bios.{Bio}
use Rattle.lab_model.specs.declared.parent.Parent.{Parent}
use Rattle.lab_model.specs.declared.parent.Parent.TheVariants.{FromLog, FromBio}
use Rattle.lab_model.specs.Guard.{is_log}
use Rattle.lab_index.specs.Numbers.{Marks, has}
use Rattle.lab_bios.specs.Living.{living_of}

-- numbers of logs, each once for each living bio that was made for the log, and how many more of
-- them need no more memory
pub record TallyRow : Type 0 where
  pub logs : List ℕ
  pub room : ℕ

-- one where the two numbers are the same
abbrev pub one_at : ℕ → ℕ → ℕ
one_at number other = cond (number == other) 1 0

-- how often a number stands among some
abbrev pub times : ℕ → List ℕ → ℕ
times number others = count_by (λ other. number == other) others

-- the numbers don't fall, and of those below 64 just the ones that stand among them are marked
pub record IsTallied (logs : List ℕ) (marks : Marks) : Type 0 where
  pub rises : IsNonDecreasing logs
  pub low : (log : ℕ) → log < 64 → has marks log ≡ nat_lt 0 (times log logs)

-- one where the parent is the log of this number
abbrev pub one_for : ℕ → Parent → ℕ
one_for log parent = cond (is_log log parent) 1 0

-- how many living bios were made for the log of this number
abbrev pub log_count : ℕ → List (Option Bio) → ℕ
log_count log bios = count_by (λ (bio : Bio). is_log log bio.parent) (living_of bios)

-- the number of each log stands there once for each living bio that was made for it
abbrev pub HasLogs : List (Option Bio) → List ℕ → Type 0
HasLogs bios logs = (log : ℕ) → times log logs ≡ log_count log bios

-- whether a number is one of those from 1 to this one
abbrev pub is_within : ℕ → ℕ → Bool
is_within count number = nat_lt 0 number && nat_le number count

-- whether a parent is one of the logs from 1 to this number
abbrev pub is_log_within : ℕ → Parent → Bool
is_log_within count (FromLog number line action) = is_within count number
is_log_within count (FromBio number piece) = false
