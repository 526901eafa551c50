-- The text of a fault, as a refusal tells it (this project's own).
use Rattle.std.specs.Prelude.{ℕ, List, ◌∷◌, ◌++◌, codes, decimal}
use Rattle.lab_model.specs.Rules.{FaultSeen, PartSeen, of_budget, of_bundle, of_history, of_limits, of_log, of_script, of_table, rule_word}

-- the name of a part
abbrev pub part_text : PartSeen → List ℕ
part_text of_bundle = codes "bundle"
part_text (of_table name) = codes "table " ++ name
part_text of_script = codes "script"
part_text (of_log name) = codes "log " ++ name
part_text of_limits = codes "limits"
part_text of_budget = codes "budget"
part_text of_history = codes "history"

-- `PART LINE RULE`
abbrev pub fault_text : FaultSeen → List ℕ
fault_text seen = part_text seen.part ++ 32 ∷ decimal seen.line ++ 32 ∷ rule_word seen.rule
