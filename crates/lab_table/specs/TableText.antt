-- The text of a table: lines of `START LENGTH TYPE ARGUMENTS` (dmsetup(8), the table format).
-- That blank lines and comments are skipped and counted, and the order of faults, is this
-- project's own.
use Rattle.std.specs.Prelude.{◌≡◌, ◌≢◌, ℕ, ◌+◌, ◌==◌, not, nat_lt, if◌then◌else◌, List, [], ◌∷◌, Option, Some, None, Result, Ok, Err}
use Rattle.std.specs.Option.{option_zip}
use Rattle.std.specs.Result.{result_map_both}
use Rattle.lab_sector.specs.declared.device.DevNo.{DevNo}
use Rattle.lab_sector.specs.declared.device.DevNo.TheVariants.{Ram}
use Rattle.lab_text.specs.Lines.{lines_of, kept_from}
use Rattle.lab_text.specs.Numbers.{number_to}
use Rattle.lab_text.specs.Rows.{with_first}
use Rattle.lab_text.specs.Words.{words_of}
use Rattle.lab_target.specs.declared.fault.TargetFault.TheVariants.{NoMemory}
use Rattle.lab_target.specs.Laws.{greatest_sector}
use Rattle.lab_target.specs.Meaning.{Meaning}
use Rattle.lab_target.specs.Reading.{resolved}
use Rattle.lab_model.specs.declared.table_line.TableLine.{TableLine}
use Rattle.lab_model.specs.Tables.{Table}
use Rattle.lab_table.specs.declared.fault.TableFault.{TableFault}
use Rattle.lab_table.specs.declared.fault.Why.{Why}
use Rattle.lab_table.specs.declared.fault.Why.TheVariants as why
use Rattle.lab_table.specs.IsTable.{most_lines}

module _ {S : Type 0} (m : Meaning S) (found : List ℕ → Option DevNo) where
  -- a line of these sectors, where the lines before it end at a sector
  abbrev pub sectors_line : ℕ → List (List ℕ) → ℕ → ℕ → Result (TableLine S) Why
  sectors_line end words start len =
      if len == 0 then Err why.ZeroLength
      else if not (start == end) then Err why.Gap
      else result_map_both (λ target. record { start = start; len = len; target = target })
      why.Target (resolved found (m.parsed words len))

  -- a line by its words: a start, a length, and the words of a target from its type on
  abbrev pub words_line : ℕ → List (List ℕ) → Result (TableLine S) Why
  words_line end (start ∷ len ∷ kind ∷ words) =
      elim (option_zip (number_to greatest_sector start) (number_to greatest_sector len))
      [ Some (first, count) ↦ sectors_line end (kind ∷ words) first count | None ↦ Err why.Number ]
  words_line end _ = Err why.Args

  -- the line that comes after so many, which end at a sector, or its first fault
  abbrev pub next_line : ℕ → ℕ → List ℕ → Result (TableLine S) Why
  next_line count end line =
      if nat_lt count most_lines then words_line end (words_of line) else Err why.TooManyLines

  -- the lines that come after so many, which end at a sector, or their first fault
  abbrev pub lines_after : ℕ → ℕ → List (ℕ × List ℕ) → Result (Table S) TableFault
  lines_after count end [] = Ok []
  lines_after count end ((number, line) ∷ more) =
      elim (next_line count end line) [
        | Ok l ↦ with_first l (lines_after (count + 1) (l.start + l.len) more)
        | Err fault ↦ Err (record { line = number; why = fault })
      ]

-- a table has a line
abbrev pub some_line : {S : Type 0} → Result (Table S) TableFault → Result (Table S) TableFault
some_line (Ok []) = Err (record { line = 0; why = why.Empty })
some_line read = read

-- the table that a text is under some names, or its first fault
abbrev pub table_of : {S : Type 0} → Meaning S → (List ℕ → Option DevNo) → List ℕ
    → Result (Table S) TableFault
table_of m found text = some_line (lines_after m found 0 0 (kept_from 1 (lines_of text)))

-- names under which each device word is known
abbrev pub each_known : List ℕ → Option DevNo
each_known word = Some (Ram 0)

-- a line's reading answers as it should, unless memory runs out
abbrev pub IsLineRead : {S : Type 0} → Result (TableLine S) Why → Result (TableLine S) Why → Type 0
IsLineRead wanted (Ok line) = wanted ≡ Ok line
IsLineRead wanted (Err fault) = fault ≢ why.Target NoMemory → wanted ≡ Err fault

-- a table's reading answers as it should, unless memory runs out
abbrev pub IsRead : {S : Type 0} → Result (Table S) TableFault → Result (Table S) TableFault
    → Type 0
IsRead wanted (Ok table) = wanted ≡ Ok table
IsRead wanted (Err fault) = fault.why ≢ why.Target NoMemory → wanted ≡ Err fault
