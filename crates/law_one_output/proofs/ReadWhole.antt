-- Readings whose faults are told. Each fault of a table, of a script and of a log is told; so where
-- no reading of texts finds a fault they can be read.
use Rattle.lab_model.proofs.Common.{rules, ◌≡◌, Bool, true, List, [], ◌∷◌, ◌++◌, Option, Some, None}
use Rattle.lab_model.proofs.Common.{Result, Ok, Err, map, is_some, IsOk, ℕ, refl, arith, ◌∙◌, All}
use Rattle.lab_model.proofs.Common.{ap, append-nil, enumerate_from, DevNo, Lawful, Meaning}
use Rattle.lab_model.proofs.Common.{All-cons, All-nil, drop, kept_from, Line, take}
use Rattle.std.specs.List.{prefix_len}
use Rattle.lab_model.specs.Rules.{FaultSeen}
use Rattle.lab_refusal.specs.Faults.{log_told, table_told, script_told}
use Rattle.lab_verify.specs.ReadFaults.{fault_found, first_fault, log_fault, read_fault}
use Rattle.lab_verify.specs.ReadFaults.{script_fault, table_fault}
use Rattle.lab_text.specs.Rows.{all_rows}
use Rattle.lab_text.specs.Words.{words_of}
use Rattle.lab_iolog.specs.Log.{log_of_lines}
use Rattle.lab_table.specs.declared.fault.TableFault.{TableFault}
use Rattle.lab_table.specs.TableText.{each_known}
use Rattle.lab_rulebook.specs.PartsOf.{table_of_lines, IsReadable, Texts}
use Rattle.lab_iolog.specs.Log as logs
use Rattle.lab_table.specs.TableText as tables
use Rattle.lab_script.specs.Script as script

-- whether what a reading found was read, or is a fault that is told
abbrev pub is_told : {X E : Type 0} → (E → Option FaultSeen) → Result X E → Bool
is_told told (Ok read) = true
is_told told (Err fault) = is_some (told fault)

-- so it is
abbrev pub Reads : {X E : Type 0} → (E → Option FaultSeen) → Result X E → Type 0
Reads told r = is_told told r ≡ true

-- what is told is seen
pub seen-told : (o : Option FaultSeen) → is_some o ≡ true → (seen : FaultSeen) × (o ≡ Some seen)
seen-told o told = search rules

-- what was found was read where no fault is told
pub says-ok : {X E : Type 0} (told : E → Option FaultSeen) (r : Result X E) → Reads told r
    → fault_found told r ≡ None → IsOk r
says-ok told r says none = search rules

module _ {X Y E : Type 0} (told : E → Option FaultSeen) (read : X → Result Y E)
    (each : (x : X) → Reads told (read x)) where
  -- items that are read one after another, before others
  pub says-all : (rest : List (Result Y E)) → Reads told (all_rows rest) → (xs : List X)
      → Reads told (all_rows (map read xs ++ rest))
  says-all rest says [] = search rules
  says-all rest says (x ∷ xs) = search (rules, says-all rest says xs)

-- ---- logs

module _ (name : List ℕ) where
  -- a line by its words
  line-says : (number : ℕ) (words : List (List ℕ))
      → Reads (log_told name) (logs.line_row number words)
  line-says number words = search rules

  -- a log's text
  pub log-says : (lines : List Line) → Reads (log_told name) (log_of_lines lines)
  log-says [] = refl
  log-says (first ∷ lines) =
      let rows = enumerate_from 1 (logs.filled_from 2 lines) in
      let says = says-all (log_told name) logs.placed_row
      (λ line. grind (arith, line-says line.1.0 (words_of line.1.1))) [] refl rows in
      grind (arith, rw append-nil at says)

-- ---- tables

module _ {S : Type 0} (m : Meaning S) (lawful : Lawful m) (found : List ℕ → Option DevNo)
    (name : List ℕ) where
  -- a line by its words
  words-say : (number end : ℕ) (words : List (List ℕ))
      → Reads (table_told name number) (tables.words_line m found end words)
  words-say number end words = search rules

  -- a fault of the table is told
  abbrev table_fault_told : TableFault → Option FaultSeen
  table_fault_told fault = table_told name fault.line fault.why

  -- lines one after another
  lines-say : (lines : List (ℕ × List ℕ)) (count end : ℕ)
      → Reads table_fault_told (tables.lines_after m found count end lines)
  lines-say [] count end = refl
  lines-say ((number, line) ∷ lines) count end =
      grind (arith, words-say number end (words_of line), lines-say lines)

-- each fault of a table's text is told
pub table-says : {S : Type 0} (m : Meaning S) → Lawful m → (found : List ℕ → Option DevNo)
    (text : List ℕ × List Line)
    → Reads (λ fault. table_told text.0 fault.line fault.why) (table_of_lines m found text.1)
table-says m lawful found text = grind (arith, lines-say m lawful found text.0 (kept_from 1 text.1) 0 0)

-- ---- scripts, and all texts

-- a script's text: the disks, and the lines behind them
script-says : (lines : List (ℕ × List ℕ)) → Reads script_told (script.rows_of lines)
script-says lines =
    let disks = prefix_len (λ line. script.declares (words_of line.1)) lines in
    let behind = says-all script_told script.later_row (λ line. grind arith) [] refl
    (drop disks lines) in
    says-all script_told script.line_row (λ line. grind arith) _ (rw append-nil at behind)
    (take disks lines)

-- where one text and others have no fault, neither has
read-one : (fault : Option FaultSeen) (more : List (Option FaultSeen))
    → first_fault (fault ∷ more) ≡ None → (fault ≡ None) × (first_fault more ≡ None)
read-one fault more none = search rules

-- so each text of some can be read, and none of the others has one
read-each : {X : Type 0} (f : X → Option FaultSeen) (P : X → Type 0)
    → ((x : X) → f x ≡ None → P x) → (xs : List X) (more : List (Option FaultSeen))
    → first_fault (map f xs ++ more) ≡ None → All P xs × (first_fault more ≡ None)
read-each f P each [] more none = (All-nil P, none)
read-each f P each (x ∷ xs) more none =
    let own = read-one (f x) (map f xs ++ more) none in
    let rest = read-each f P each xs more own.1 in
    (All-cons P x xs (each x own.0) rest.0, rest.1)

-- texts without a fault of reading can be read
pub faultless-readable : {S : Type 0} (m : Meaning S) → Lawful m → (texts : Texts)
    → read_fault m texts ≡ None → IsReadable m texts
faultless-readable m lawful texts none =
    let tables = read-each (table_fault m) (λ text. IsOk (table_of_lines m each_known text.1))
    (λ text. says-ok (λ fault. table_told text.0 fault.line fault.why) _
    (table-says m lawful each_known text)) texts.tables
    (script_fault texts.script ∷ map log_fault texts.logs) none in
    let own = read-one (script_fault texts.script) (map log_fault texts.logs) tables.1 in
    let logs = read-each log_fault (λ text. IsOk (log_of_lines text.1))
    (λ text. says-ok (log_told text.0) (log_of_lines text.1) (log-says text.0 text.1)) texts.logs
    [] (ap first_fault (append-nil (map log_fault texts.logs)) ∙ own.1) in
    record {
      tables = tables.0;
      script = says-ok script_told (script.rows_of (kept_from 1 texts.script))
          (script-says (kept_from 1 texts.script)) own.0;
      logs = logs.0;
    }
