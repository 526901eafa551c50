-- The rows of a script, one line after another. Names: rows_from, and the form of the next line.
use Rattle.lab_model.proofs.Common.{rules, ◌≡◌, ℕ, ◌+◌, Bool, true, false, List, ◌∷◌, map, Result}
use Rattle.lab_model.proofs.Common.{Some, None, Err, ◌++◌, add-one, cond, drop, is_skipped}
use Rattle.lab_model.proofs.Common.{kept_from, take}
use Rattle.lab_text.specs.Rows.{all_rows, with_first}
use Rattle.lab_text.specs.Words.{words_of}
use Rattle.lab_script.specs.declared.command.ScriptFault.{ScriptFault}
use Rattle.lab_script.specs.Script.{ScriptRow, later_row, line_row, rows_of, declares}
use Rattle.lab_script.specs.Task.{Task, task_of_words}
use Rattle.lab_script.specs.declared.command.ScriptFault.TheVariants as faults

-- the rows of some lines, where disks may be declared or where they may not any more
abbrev pub rows_where : Bool → List (ℕ × List ℕ) → Result (List ScriptRow) ScriptFault
rows_where true lines = rows_of lines
rows_where false lines = all_rows (map later_row lines)

-- the rows of the lines after `number`
abbrev pub rows_from : Bool → ℕ → List (List ℕ) → Result (List ScriptRow) ScriptFault
rows_from may_declare number lines = rows_where may_declare (kept_from (number + 1) lines)

-- a line comes first: one that declares a disk, with `k` more such lines behind it, or another one
split-first : (declared : Bool) (k : ℕ) (line : ℕ × List ℕ) (lines : List (ℕ × List ℕ))
    → let n = cond declared (1 + k) 0 in
    all_rows (map line_row (take n (line ∷ lines)) ++ map later_row (drop n (line ∷ lines)))
    ≡ cond declared
    (all_rows (line_row line ∷ map line_row (take k lines) ++ map later_row (drop k lines)))
    (all_rows (later_row line ∷ map later_row lines))
split-first true k line lines = search (rules, add-one)
split-first false k line lines = search rules

-- a kept line's row comes first
pub rows_from-kept : (may_declare : Bool) (n : ℕ) (line : List ℕ) (lines : List (List ℕ))
    (task : Task)
    → is_skipped line ≡ false → task_of_words (words_of line) ≡ Some task
    → (may_declare ≡ false → declares (words_of line) ≡ false)
    → rows_from may_declare n (line ∷ lines)
    ≡ with_first (record { number = n + 1; task = task })
    (rows_from (declares (words_of line)) (n + 1) lines)
rows_from-kept may_declare n line lines task kept is allowed = search (rules, split-first)

-- a kept line that is no command is bad
pub rows_from-bad : (may_declare : Bool) (n : ℕ) (line : List ℕ) (lines : List (List ℕ))
    → is_skipped line ≡ false → task_of_words (words_of line) ≡ None
    → rows_from may_declare n (line ∷ lines) ≡ Err (faults.BadLine (n + 1))
rows_from-bad may_declare n line lines kept is = search (rules, split-first)
