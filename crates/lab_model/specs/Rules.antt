-- The rules that a bundle can break, by number and by name, and what is told of a fault (this
-- project's own).
use Rattle.std.specs.Prelude.{ℕ, List, ◌++◌, codes, decimal}
use Rattle.lab_model.specs.declared.rule.Rule.{Rule}
use Rattle.lab_model.specs.declared.rule.Rule.TheVariants as rules

-- the number of a rule of the verifier; 0 of a rule of reading
abbrev pub rule_number : Rule → ℕ
rule_number rules.V1 = 1
rule_number rules.V2 = 2
rule_number rules.V3 = 3
rule_number rules.V4 = 4
rule_number rules.V5 = 5
rule_number rules.V6 = 6
rule_number rules.V7 = 7
rule_number rules.V8 = 8
rule_number rules.V9 = 9
rule_number rules.V10 = 10
rule_number rules.V11 = 11
rule_number rules.V12 = 12
rule_number rules.V13 = 13
rule_number rules.V14 = 14
rule_number rules.V15 = 15
rule_number rules.V16 = 16
rule_number _ = 0

-- the name of a rule: of the verifier's it is V and the number
abbrev pub rule_word : Rule → List ℕ
rule_word rules.TooBig = codes "TooBig"
rule_word rules.NotText = codes "NotText"
rule_word rules.BadHeading = codes "BadHeading"
rule_word rules.Twice = codes "Twice"
rule_word rules.Stray = codes "Stray"
rule_word rules.NoScript = codes "NoScript"
rule_word rules.TooManyLines = codes "TooManyLines"
rule_word rules.Args = codes "Args"
rule_word rules.Number = codes "Number"
rule_word rules.ZeroLength = codes "ZeroLength"
rule_word rules.Gap = codes "Gap"
rule_word rules.Empty = codes "Empty"
rule_word rules.Interval = codes "Interval"
rule_word rules.Feature = codes "Feature"
rule_word rules.Conflict = codes "Conflict"
rule_word rules.Value = codes "Value"
rule_word rules.BlockSize = codes "BlockSize"
rule_word rules.TooLong = codes "TooLong"
rule_word rules.Unknown = codes "Unknown"
rule_word rules.Device = codes "Device"
rule_word rules.BadLine = codes "BadLine"
rule_word rules.Header = codes "Header"
rule_word rules.Unaligned = codes "Unaligned"
rule_word rules.EmptyRange = codes "EmptyRange"
rule_word rules.Missing = codes "Missing"
rule_word rule = codes "V" ++ decimal (rule_number rule)

-- the part that a fault is in
pub data PartSeen : Type 0 where
  of_bundle of_script of_limits of_budget of_history : PartSeen
  -- of a name
  of_table of_log : List ℕ → PartSeen

-- what a refusal tells: the part, the line, 0 where the fault is of none, and the rule
pub record FaultSeen : Type 0 where
  pub part : PartSeen
  pub line : ℕ
  pub rule : Rule
