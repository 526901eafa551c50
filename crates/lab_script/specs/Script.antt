-- Scripts: which lines of a text are commands, and in which order they may stand (this project's
-- own).
use Rattle.std.specs.Prelude.{ℕ, Bool, false, if◌then◌else◌, List, [], ◌∷◌, ◌++◌, drop, map, take, Result, Err, codes}
use Rattle.std.specs.List.{prefix_len}
use Rattle.std.specs.Option.{ok_or, option_map}
use Rattle.std.specs.Str.{bytes_eq}
use Rattle.lab_text.specs.Lines.{lines_of, kept_from}
use Rattle.lab_text.specs.Rows.{all_rows}
use Rattle.lab_text.specs.Words.{words_of}
use Rattle.lab_script.specs.declared.command.ScriptFault.{ScriptFault}
use Rattle.lab_script.specs.declared.command.ScriptFault.TheVariants as faults
use Rattle.lab_script.specs.declared.command.ScriptLine.{ScriptLine}
use Rattle.lab_script.specs.Task.{Task, task_of, task_of_words}

-- a command of a script: the number of its line, and what it asks for
pub record ScriptRow : Type 0 where
  pub number : ℕ
  pub task : Task

-- a line without where its words lie in memory
abbrev pub row_of : ScriptLine → ScriptRow
row_of line = record { number = line.number; task = task_of line.command }

-- the lines of a script, as rows
abbrev pub script_rows : List ScriptLine → List ScriptRow
script_rows lines = map row_of lines

-- whether a line of these words declares a disk: its first word is `ram`
abbrev pub declares : List (List ℕ) → Bool
declares [] = false
declares (word ∷ words) = bytes_eq word (codes "ram")

-- a line with its number, or its fault
abbrev pub line_row : ℕ × List ℕ → Result ScriptRow ScriptFault
line_row (n, line) =
    ok_or (option_map (λ task. record { number = n; task = task }) (task_of_words (words_of line)))
    (faults.BadLine n)

-- the same behind a command that declares no disk: no further disk may be declared
abbrev pub later_row : ℕ × List ℕ → Result ScriptRow ScriptFault
later_row (n, line) =
    if declares (words_of line) then Err (faults.BadLine n) else line_row (n, line)

-- the rows of a script's lines, or their first fault: the disks are declared by the first lines
abbrev pub rows_of : List (ℕ × List ℕ) → Result (List ScriptRow) ScriptFault
rows_of lines =
    let disks = prefix_len (λ line. declares (words_of line.1)) lines in
    all_rows (map line_row (take disks lines) ++ map later_row (drop disks lines))

-- the script that a text is, or its first fault
abbrev pub script_of : List ℕ → Result (List ScriptRow) ScriptFault
script_of text = rows_of (kept_from 1 (lines_of text))
