-- The faults that reading the texts of a bundle finds (this project's own).
use Rattle.std.specs.Prelude.{List, ◌∷◌, ◌++◌, Option, Result, map, slice_get, ℕ}
use Rattle.std.specs.List.{filter_map}
use Rattle.std.specs.Option.{option_and_then}
use Rattle.std.specs.Result.{result_err}
use Rattle.lab_text.specs.Lines.{kept_from}
use Rattle.lab_text.specs.Bundle.{Line}
use Rattle.lab_target.specs.Meaning.{Meaning}
use Rattle.lab_iolog.specs.Log.{log_of_lines}
use Rattle.lab_script.specs.Script.{rows_of}
use Rattle.lab_table.specs.TableText.{each_known}
use Rattle.lab_rulebook.specs.PartsOf.{Texts, table_of_lines}
use Rattle.lab_model.specs.Rules.{FaultSeen}
use Rattle.lab_refusal.specs.Faults.{log_told, script_told, table_told}

-- the fault that a reading finds, if it finds one
abbrev pub fault_found : {X E : Type 0} → (E → Option FaultSeen) → Result X E → Option FaultSeen
fault_found told read = option_and_then told (result_err read)

-- the first of some faults
abbrev pub first_fault : List (Option FaultSeen) → Option FaultSeen
first_fault faults = slice_get (filter_map (λ fault. fault) faults) 0

-- the fault of a table's text, with each device word taken as known
abbrev pub table_fault : {S : Type 0} → Meaning S → List ℕ × List Line → Option FaultSeen
table_fault m text = fault_found (λ fault. table_told text.0 fault.line fault.why)
    (table_of_lines m each_known text.1)

-- the fault of a script's text
abbrev pub script_fault : List Line → Option FaultSeen
script_fault lines = fault_found script_told (rows_of (kept_from 1 lines))

-- the fault of a log's text
abbrev pub log_fault : List ℕ × List Line → Option FaultSeen
log_fault text = fault_found (log_told text.0) (log_of_lines text.1)

-- the faults that reading some texts finds, at most one a text: in the tables, then the script, then
-- the logs
abbrev pub read_faults : {S : Type 0} → Meaning S → Texts → List FaultSeen
read_faults m texts = filter_map (λ fault. fault) (map (table_fault m) texts.tables
    ++ script_fault texts.script ∷ map log_fault texts.logs)

-- the first of them
abbrev pub read_fault : {S : Type 0} → Meaning S → Texts → Option FaultSeen
read_fault m texts = slice_get (read_faults m texts) 0
