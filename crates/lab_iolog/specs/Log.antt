-- Logs: fio's trace files, format version 2 (fio's manual, "Trace file format v2"). That blank
-- lines are skipped, and how many lines a log may have, is this project's own.
use lib.Pointwise.{pointwise}
use Rattle.std.specs.Prelude.{ℕ, Bool, not, ◌==◌, if◌then◌else◌, List, [], ◌∷◌, filter, map, Result, Err, codes}
use Rattle.std.specs.List.{enumerate_from}
use Rattle.std.specs.Result.{result_map_both}
use Rattle.std.specs.Str.{bytes_eq}
use Rattle.lab_text.specs.Lines.{lines_of, is_blank}
use Rattle.lab_text.specs.Rows.{all_rows}
use Rattle.lab_text.specs.Words.{words_of}
use Rattle.lab_model.specs.declared.entry.Entry.{Entry}
use Rattle.lab_iolog.specs.declared.log.LogFault.{LogFault}
use Rattle.lab_iolog.specs.declared.log.LogFault.TheVariants as faults
use Rattle.lab_iolog.specs.declared.log.IologLine.{IologLine}
use Rattle.lab_iolog.specs.Line.{entry_of}

-- a line of a log: its number among all lines, the word that names the file, and what it asks for
pub record LogRow : Type 0 where
  pub number : ℕ
  pub file : List ℕ
  pub entry : Entry

-- a line without where its first word lies in memory
abbrev pub row_of : IologLine → LogRow
row_of line = record { number = line.number; file = line.file.now; entry = line.entry }

-- the lines of a log, as rows
abbrev pub log_rows : List IologLine → List LogRow
log_rows lines = map row_of lines

-- whether a line of these words is the header
abbrev pub is_header : List (List ℕ) → Bool
is_header words =
    pointwise bytes_eq words (codes "fio" ∷ codes "version" ∷ codes "2" ∷ codes "iolog" ∷ [])

-- the lines that aren't blank, each with its number; the first of all has the number n
abbrev pub filled_from : ℕ → List (List ℕ) → List (ℕ × List ℕ)
filled_from n lines = filter (λ line. not (is_blank line.1)) (enumerate_from n lines)

-- line n by its words, or its first fault
abbrev pub line_row : ℕ → List (List ℕ) → Result LogRow LogFault
line_row n [] = Err (faults.BadLine n)
line_row n (file ∷ words) =
    result_map_both (λ entry. record { number = n; file = file; entry = entry }) (λ fault. fault)
    (entry_of n words)

-- a line by its place among the kept ones, counted from 1, and its number: the 10,001st is one
-- too many, whatever it is
abbrev pub placed_row : ℕ × (ℕ × List ℕ) → Result LogRow LogFault
placed_row (place, (n, line)) =
    if place == 10001 then Err (faults.TooManyLines n) else line_row n (words_of line)

-- the rows of the lines behind the header, or their first fault
abbrev pub log_rows_read : List (List ℕ) → Result (List LogRow) LogFault
log_rows_read lines = all_rows (map placed_row (enumerate_from 1 (filled_from 2 lines)))

-- the log of these lines, or their first fault
abbrev pub log_of_lines : List (List ℕ) → Result (List LogRow) LogFault
log_of_lines [] = Err faults.Header
log_of_lines (first ∷ lines) =
    if is_header (words_of first) then log_rows_read lines else Err faults.Header

-- the log that a text is, or its first fault
abbrev pub log_of : List ℕ → Result (List LogRow) LogFault
log_of text = log_of_lines (lines_of text)
