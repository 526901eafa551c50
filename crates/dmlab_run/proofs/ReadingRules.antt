-- The fault that reading finds is of no rule of the verifier.
use Rattle.lab_model.proofs.Common.{◌≡◌, ℕ, List, [], ◌∷◌, ◌++◌, refl, subst, Option, Some, None}
use Rattle.lab_model.proofs.Common.{Result, Ok, Err, IfSome, map, kept_from, append-nil, Meaning}
use Rattle.lab_table.specs.declared.fault.Why.{Why}
use Rattle.lab_iolog.specs.Log.{log_of_lines}
use Rattle.lab_iolog.specs.declared.log.LogFault.{LogFault}
use Rattle.lab_script.specs.Script.{rows_of}
use Rattle.lab_script.specs.declared.command.ScriptFault.{ScriptFault}
use Rattle.lab_table.specs.TableText.{each_known}
use Rattle.lab_rulebook.specs.PartsOf.{Texts, table_of_lines}
use Rattle.lab_model.specs.Rules.{FaultSeen, rule_number}
use Rattle.lab_refusal.specs.Faults.{log_told, script_told, table_told}
use Rattle.lab_verify.specs.ReadFaults.{fault_found, first_fault, log_fault, read_fault}
use Rattle.lab_verify.specs.ReadFaults.{script_fault, table_fault}
use Rattle.lab_target.specs.declared.fault.TargetFault.TheVariants as targets
use Rattle.lab_table.specs.declared.fault.Why.TheVariants as whys
use Rattle.lab_iolog.specs.declared.log.LogFault.TheVariants as logs
use Rattle.lab_script.specs.declared.command.ScriptFault.TheVariants as scripts

-- a fault of reading, if there is one
abbrev IsReading : Option FaultSeen → Type 0
IsReading fault = IfSome fault (λ seen. rule_number seen.rule ≡ 0)

-- a table's
of-table : (name : List ℕ) (line : ℕ) (why : Why) → IsReading (table_told name line why)
of-table name line (whys.Target targets.NoMemory) = tt
of-table name line (whys.Target fault) = refl
of-table name line why = refl

-- a script's
of-script : (fault : ScriptFault) → IsReading (script_told fault)
of-script (scripts.BadLine line) = refl
of-script scripts.NoMemory = tt

-- a log's
of-log : (name : List ℕ) (fault : LogFault) → IsReading (log_told name fault)
of-log name logs.NoMemory = tt
of-log name fault = refl

-- what a reading found
found : {X E : Type 0} (told : E → Option FaultSeen) (read : Result X E)
    → ((fault : E) → IsReading (told fault)) → IsReading (fault_found told read)
found told (Ok read) each = tt
found told (Err fault) each = each fault

-- the first of a fault of reading and others
of-one : (fault : Option FaultSeen) (more : List (Option FaultSeen)) → IsReading fault
    → IsReading (first_fault more) → IsReading (first_fault (fault ∷ more))
of-one None more own first = first
of-one (Some seen) more own first = own

-- and of those of some texts and others
of-each : {X : Type 0} (f : X → Option FaultSeen) → ((x : X) → IsReading (f x)) → (xs : List X)
    (more : List (Option FaultSeen)) → IsReading (first_fault more)
    → IsReading (first_fault (map f xs ++ more))
of-each f each [] more first = first
of-each f each (x ∷ xs) more first =
    of-one (f x) (map f xs ++ more) (each x) (of-each f each xs more first)

-- a fault that reading finds breaks no rule of the verifier
pub reading-rule : {S : Type 0} (m : Meaning S) (texts : Texts) (seen : FaultSeen)
    → read_fault m texts ≡ Some seen → rule_number seen.rule ≡ 0
reading-rule m texts seen finds = subst IsReading finds (of-each (table_fault m)
    (λ text. found (λ fault. table_told text.0 fault.line fault.why)
    (table_of_lines m each_known text.1) (λ fault. of-table text.0 fault.line fault.why))
    texts.tables _ (of-one (script_fault texts.script) (map log_fault texts.logs)
    (found script_told (rows_of (kept_from 1 texts.script)) of-script)
    (rw append-nil at (of-each log_fault
    (λ text. found (log_told text.0) (log_of_lines text.1) (of-log text.0)) texts.logs [] tt))))
