-- Tables as they are printed and as they are when they are loaded again (dmsetup(8), `table`).
use Rattle.std.specs.Prelude.{◌≡◌, ℕ, List, [], ◌∷◌, All, unwrap_or, Option, Some, None, Result, Ok, Err}
use Rattle.std.specs.List.{flat_map}
use Rattle.std.specs.Option.{option_zip}
use Rattle.lab_sector.specs.declared.device.DevNo.{DevNo}
use Rattle.lab_text.specs.Lines.{lines_of, kept_from}
use Rattle.lab_text.specs.Numbers.{number_to}
use Rattle.lab_text.specs.Words.{words_of}
use Rattle.lab_target.specs.declared.fault.TargetFault.{TargetFault}
use Rattle.lab_target.specs.Laws.{greatest_sector}
use Rattle.lab_target.specs.Meaning.{Draft, Meaning}
use Rattle.lab_target.specs.Reading.{FindsPrinted, devices_of}
use Rattle.lab_model.specs.ControlEffect.{table_texts}
use Rattle.lab_model.specs.Report.{text_line}
use Rattle.lab_model.specs.Tables.{Table, image, opened}
use Rattle.lab_table.specs.TableText.{table_of}

-- the lines as they are given to dmsetup, each ended by a newline
abbrev pub table_text : {S : Type 0} → Meaning S → Table S → List ℕ
table_text m lines = flat_map text_line (table_texts m lines)

-- the devices that what words say names, if it names known ones
abbrev pub devices_named : {S : Type 0} → (List ℕ → Option DevNo) → Result (Draft S) TargetFault
    → List DevNo
devices_named found (Ok draft) = unwrap_or (devices_of found draft.devices) []
devices_named found (Err fault) = []

-- the devices that a line of a table's text names
abbrev pub line_devices : {S : Type 0} → Meaning S → (List ℕ → Option DevNo) → List (List ℕ)
    → List DevNo
line_devices m found (start ∷ len ∷ words) =
    elim (option_zip (number_to greatest_sector start) (number_to greatest_sector len))
    [ Some (first, count) ↦ devices_named found (m.parsed words count) | None ↦ [] ]
line_devices m found _ = []

-- other names give the printed word of each device that a line of the text names that device
abbrev pub FindsLinePrinted : {S : Type 0} → Meaning S → (List ℕ → Option DevNo)
    → (List ℕ → Option DevNo) → ℕ × List ℕ → Type 0
FindsLinePrinted m found others line =
    FindsPrinted others (line_devices m found (words_of line.1))

-- the same of each line that is neither blank nor a comment
abbrev pub FindsTablePrinted : {S : Type 0} → Meaning S → (List ℕ → Option DevNo)
    → (List ℕ → Option DevNo) → List ℕ → Type 0
FindsTablePrinted m found others text =
    All (FindsLinePrinted m found others) (kept_from 1 (lines_of text))

-- whatever happened since to the targets of a table that was read under some names: opened again
-- it is that table, and so is what its printed text is read as, under names that find the table's
-- own devices by their printed words
pub record ReadsBack {S : Type 0} (m : Meaning S) : Type 0 where
  pub opened : (found : List ℕ → Option DevNo) (text : List ℕ) (lines since : Table S)
      → table_of m found text ≡ Ok lines → image m since ≡ image m lines → opened m since ≡ lines
  pub printed : (found others : List ℕ → Option DevNo) (text : List ℕ) (lines since : Table S)
      → table_of m found text ≡ Ok lines → image m since ≡ image m lines
      → FindsTablePrinted m found others text
      → table_of m others (table_text m since) ≡ Ok lines
