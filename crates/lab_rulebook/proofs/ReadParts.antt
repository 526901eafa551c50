-- A table that is read of a text has no gap, and its targets are sound and in their opening state.
-- The lines that are read of a log: no wait is longer than words may say. The parts that texts say
-- are well read, and brief: no sleep or wait is longer than words may say.
use Rattle.lab_model.proofs.Common.{rules, ◌≡◌, ℕ, zero, suc, ◌+◌, List, [], ◌∷◌, Option, Some}
use Rattle.lab_model.proofs.Common.{slice_get, map, kept_from, result_ok, slice_get-map, DevNo}
use Rattle.lab_model.proofs.Common.{Lawful, Meaning, Table, option_map-holds, Line, Bool, cond}
use Rattle.lab_model.proofs.Common.{None, Result, Ok, Err, codes, IfOk, number_to, ◌&&◌, nat_le}
use Rattle.lab_model.proofs.Common.{leb-true, and_parts}
use Rattle.lab_model.proofs.Common.{result_unwrap_or, bytes_eq, cond_both, ap}
use Rattle.lab_model.proofs.Common.{◌∙◌, option_and_then}
use Rattle.lab_model.specs.declared.table_line.TableLine.{TableLine}
use Rattle.lab_text.specs.Rows.{all_rows}
use Rattle.lab_table.specs.TableText.{lines_after}
use Rattle.lab_table.proofs.AsTable.{Anything, no_gap}
use Rattle.lab_table.proofs.AsRead.{AreRead, IsMade, lines_after-read, some-read}
use Rattle.lab_rulebook.specs.Read.{WellReadTable}
use Rattle.lab_rulebook.specs.BoundWords.{line_read, table_word}
use Rattle.lab_rulebook.specs.PartsOf.{log_part, table_of_lines, table_part}
use Rattle.lab_model.specs.declared.entry.Entry.{Entry}
use Rattle.std.specs.Option.{ok_or, option_zip}
use Rattle.std.specs.Result.{result_map_both}
use Rattle.lab_iolog.specs.declared.log.LogFault.{LogFault}
use Rattle.lab_iolog.specs.declared.log.LogFault.TheVariants as faults
use Rattle.lab_iolog.specs.Line.{entry_of, max_number, max_wait, timed_entry}
use Rattle.lab_iolog.specs.Log.{LogRow, log_of_lines, placed_row}
use Rattle.law_slots.proofs.AllOf.{AllOf, all-at, all-map}
use Rattle.lab_rulebook.specs.BriefParts.{WaitIsBrief, PartsAreBrief, SleepIsBrief}
use Rattle.lab_script.specs.Script.{ScriptRow, rows_of}
use Rattle.lab_script.proofs.TaskForms.{all-each, rows-have}
use Rattle.lab_rulebook.specs.Parts.{DeviceWord, TablePart}
use Rattle.lab_rulebook.specs.WellReadParts.{PartsAreWellRead}
use Rattle.lab_model.specs.declared.entry.Entry.TheVariants as entries

-- an item of a mapped list is made of an item
pub map-place : {X Y : Type 0} (f : X → Y) (xs : List X) (place : ℕ) (y : Y)
    → slice_get (map f xs) place ≡ Some y → (x : X) × (f x ≡ y)
map-place f xs place y is = search (rules, option_map-holds, slice_get-map)

module _ {S : Type 0} (m : Meaning S) (lawful : Lawful m) (found : List ℕ → Option DevNo) where
  -- each line that was read was made of words
  read-made : (count end : ℕ) (lines : Table S) → AreRead m found Anything count end lines
      → (number : ℕ) (line : TableLine S) → slice_get lines number ≡ Some line
      → IsMade m found Anything line.len line.target
  read-made count end [] read number line is = search rules
  read-made count end (first ∷ lines) read zero line is = search rules
  read-made count end (first ∷ lines) read (suc number) line is =
      search (rules, read-made (count + 1) (first.start + first.len) lines read.2 number line is)

  -- so a table of some lines is well read
  pub table-well : (lines : List Line) (table : Table S)
      → result_ok (table_of_lines m found lines) ≡ Some table → WellReadTable m table
  table-well lines table is =
      let rows = kept_from 1 lines in
      let some = some-read m found Anything (lines_after m found 0 0 rows) table
      (search rules) in
      let read = lines_after-read m found Anything 0 0 rows table some.0 (λ place row within. tt) in
      record {
        no_gap = no_gap m lawful found 0 0 table read;
        lines = λ number line there.
            let made = read-made 0 0 table read number line there in
            search rules;
      }

-- an entry that is read is brief, if one is
abbrev Brief : Result Entry LogFault → Type 0
Brief read = IfOk read WaitIsBrief

-- either of two
cond-brief : (b : Bool) (first second : Result Entry LogFault) → Brief first → Brief second
    → Brief (cond b first second)
cond-brief b first second one two = search rules

-- a line of two words
file-brief : (a b c : Bool) (fault : LogFault) → Brief (ok_or (cond a (Some entries.Add)
    (cond b (Some entries.Open) (cond c (Some entries.Close) None))) fault)
file-brief a b c fault = search rules

-- a line of four words
timed-brief : (n : ℕ) (word : List ℕ) (first second : ℕ) → Brief (timed_entry n word first second)
timed-brief n word first second =
    cond_both (bytes_eq word (codes "wait") && nat_le first max_wait) (Ok (entries.Wait first)) _
    Brief (λ waits. leb-true first max_wait (and_parts _ _ waits).1)
    (λ other. search (rules, cond-brief))

-- a line of four words, of which two are numbers
numbers-brief : (n : ℕ) (word : List ℕ) (first second : Option ℕ)
    → Brief (elim (option_zip first second)
    [ Some (one, other) ↦ timed_entry n word one other | None ↦ Err (faults.BadLine n) ])
numbers-brief n word (Some first) (Some second) = timed-brief n word first second
numbers-brief n word None second = tt
numbers-brief n word (Some first) None = tt

-- a line's words behind the first
entry-brief : (n : ℕ) (words : List (List ℕ)) → Brief (entry_of n words)
entry-brief n (word ∷ []) = search (rules, file-brief)
entry-brief n (word ∷ (first ∷ (second ∷ []))) =
    numbers-brief n word (number_to max_number first) (number_to max_number second)
entry-brief n _ = tt

-- a row that is read is brief, if one is
abbrev RowBrief : Result LogRow LogFault → Type 0
RowBrief read = IfOk read (λ row. WaitIsBrief row.entry)

-- an entry on its line
row-brief : (n : ℕ) (file : List ℕ) (entry : Result Entry LogFault) → Brief entry
    → RowBrief (result_map_both (λ e. record { number = n; file = file; entry = e }) (λ f. f) entry)
row-brief n file entry brief = search rules

-- a line by its place
placed-brief : (line : ℕ × (ℕ × List ℕ)) → RowBrief (placed_row line)
placed-brief (place, (n, line)) = search (rules, row-brief, entry-brief)

-- the rows that are kept of a log are brief: of one with a fault there are none
abbrev AllBrief : Result (List LogRow) LogFault → Type 0
AllBrief read = AllOf (λ row. WaitIsBrief row.entry) (result_unwrap_or read [])

-- a read row before others
then-brief : (read : Result LogRow LogFault) (others : List (Result LogRow LogFault))
    → RowBrief read → AllBrief (all_rows others) → AllBrief (all_rows (read ∷ others))
then-brief read others brief all = search rules

-- the rows of some lines
pub lines-brief : (lines : List (ℕ × (ℕ × List ℕ))) → AllBrief (all_rows (map placed_row lines))
lines-brief [] = search rules
lines-brief (line ∷ lines) = search (rules, then-brief, placed-brief, lines-brief lines)

-- each command of a script is brief
script-brief : (lines : List Line) (place : ℕ) (row : ScriptRow)
    → slice_get (result_unwrap_or (rows_of (kept_from 1 lines)) []) place ≡ Some row
    → SleepIsBrief row.task
script-brief lines = all-each _ _ (rows-have SleepIsBrief (search rules) (kept_from 1 lines))

-- table by table
pub parts-well : {S : Type 0} (m : Meaning S) → Lawful m → PartsAreWellRead m
parts-well {S} m lawful texts = record {
  tables = λ number part is names table under.
      let text = map-place (table_part m) texts.tables number part is in
      table-well m lawful (λ word. option_and_then names (table_word word)) text.0.1 table
      (ap (λ (p : TablePart S). p.under names) text.1 ∙ under);
}

-- the rows of a log
rows-brief : (lines : List Line) → AllBrief (log_of_lines lines)
rows-brief lines = search (rules, lines-brief)

-- a log as it is read, under any names
log-brief : (text : List ℕ × List Line) (names : DeviceWord → Option DevNo)
    → AllOf (λ line. WaitIsBrief line.entry) ((log_part text).under names)
log-brief text names =
    all-map _ (line_read names) (result_unwrap_or (log_of_lines text.1) []) (rows-brief text.1)

-- command by command, and line by line
pub parts-brief : {S : Type 0} (m : Meaning S) → PartsAreBrief m
parts-brief m texts = search (rules, script-brief, map-place, all-at, log-brief)
