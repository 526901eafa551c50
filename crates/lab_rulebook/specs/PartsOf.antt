-- The parts that a bundle's texts say, each read by itself, and that no reading has a fault (this
-- project's own). A text is seen as its lines.
use Rattle.std.specs.Prelude.{◌≡◌, ℕ, List, [], ◌∷◌, Option, All, IsOk, Result, map}
use Rattle.std.specs.List.{filter_map}
use Rattle.std.specs.Option.{option_and_then}
use Rattle.std.specs.Result.{result_ok, result_unwrap_or}
use Rattle.lab_sector.specs.declared.device.DevNo.{DevNo}
use Rattle.lab_text.specs.Bundle.{Line, as_log, as_script, as_table, part_of, parts_of}
use Rattle.lab_text.specs.Lines.{lines_of, kept_from}
use Rattle.lab_text.specs.declared.bundle.Bundle.{Bundle}
use Rattle.lab_target.specs.Meaning.{Meaning}
use Rattle.lab_model.specs.Tables.{Table}
use Rattle.lab_table.specs.TableText.{lines_after, some_line}
use Rattle.lab_table.specs.TableText.{each_known}
use Rattle.lab_table.specs.declared.fault.TableFault.{TableFault}
use Rattle.lab_iolog.specs.Log.{log_of_lines}
use Rattle.lab_script.specs.Script.{rows_of}
use Rattle.lab_rulebook.specs.BoundWords.{line_read, table_word}
use Rattle.lab_rulebook.specs.Parts.{LogPart, Parts, TablePart}

-- the texts of a bundle: tables and logs with their names, and the script
pub record Texts : Type 0 where
  pub tables : List (List ℕ × List Line)
  pub script : List Line
  pub logs : List (List ℕ × List Line)

-- the texts of a bundle as it was read
abbrev pub texts_of : Bundle → Texts
texts_of bundle = record {
  tables = map part_of bundle.tables.items;
  script = lines_of bundle.script.now;
  logs = map part_of bundle.logs.items;
}

-- a bundle's bytes have these texts, each kind's in their order
pub record HasTexts (bytes : List ℕ) (texts : Texts) : Type 0 where
  pub tables : texts.tables ≡ filter_map as_table (parts_of (lines_of bytes))
  pub script : texts.script ∷ [] ≡ filter_map as_script (parts_of (lines_of bytes))
  pub logs : texts.logs ≡ filter_map as_log (parts_of (lines_of bytes))

-- the table that some lines are under some names, or its first fault
abbrev pub table_of_lines : {S : Type 0} → Meaning S → (List ℕ → Option DevNo) → List Line
    → Result (Table S) TableFault
table_of_lines m found lines = some_line (lines_after m found 0 0 (kept_from 1 lines))

-- a table part
abbrev pub table_part : {S : Type 0} → Meaning S → List ℕ × List Line → TablePart S
table_part m text = record {
  name = text.0;
  under = λ names. result_ok
      (table_of_lines m (λ word. option_and_then names (table_word word)) text.1);
}

-- a log part; no line is kept of a text with a fault
abbrev pub log_part : List ℕ × List Line → LogPart
log_part text = record {
  name = text.0;
  under = λ names. map (line_read names) (result_unwrap_or (log_of_lines text.1) []);
}

-- the parts that texts say; no line is kept of a text with a fault
abbrev pub parts_of_texts : {S : Type 0} → Meaning S → Texts → Parts S
parts_of_texts m texts = record {
  tables = map (table_part m) texts.tables;
  script = result_unwrap_or (rows_of (kept_from 1 texts.script)) [];
  logs = map log_part texts.logs;
}

-- no text has a reading fault: tables are read with each device word known, so the script doesn't
-- matter to them
pub record IsReadable {S : Type 0} (m : Meaning S) (texts : Texts) : Type 0 where
  pub tables : All (λ text. IsOk (table_of_lines m each_known text.1)) texts.tables
  pub script : IsOk (rows_of (kept_from 1 texts.script))
  pub logs : All (λ text. IsOk (log_of_lines text.1)) texts.logs
