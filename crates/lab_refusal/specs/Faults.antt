-- What a refusal tells of a fault: the part, the line and the rule (this project's own). Want of
-- memory is no fault of a text.
use Rattle.std.specs.Option.{option_map}
use Rattle.std.specs.Prelude.{◌≡◌, ℕ, List, Option, Some, None, IfSome}
use Rattle.lab_text.specs.declared.bundle.BundleFault.{BundleFault}
use Rattle.lab_text.specs.declared.bundle.BundleFault.TheVariants as bundles
use Rattle.lab_target.specs.declared.fault.TargetFault.{TargetFault}
use Rattle.lab_target.specs.declared.fault.TargetFault.TheVariants as targets
use Rattle.lab_table.specs.declared.fault.Why.{Why}
use Rattle.lab_table.specs.declared.fault.Why.TheVariants as whys
use Rattle.lab_history.specs.declared.fault.HistoryFault.{HistoryFault}
use Rattle.lab_history.specs.declared.fault.HistoryFault.TheVariants as histories
use Rattle.lab_iolog.specs.declared.log.LogFault.{LogFault}
use Rattle.lab_iolog.specs.declared.log.LogFault.TheVariants as logs
use Rattle.lab_script.specs.declared.command.ScriptFault.{ScriptFault}
use Rattle.lab_script.specs.declared.command.ScriptFault.TheVariants as scripts
use Rattle.lab_refusal.specs.declared.fault.Fault.{Fault}
use Rattle.lab_refusal.specs.declared.fault.PartName.{PartName}
use Rattle.lab_refusal.specs.declared.fault.PartName.TheVariants as names
use Rattle.lab_refusal.specs.declared.fault.Refusal.{Refusal}
use Rattle.lab_refusal.specs.declared.fault.Refusal.TheVariants as refusals
use Rattle.lab_model.specs.declared.rule.Rule.{Rule}
use Rattle.lab_model.specs.declared.rule.Rule.TheVariants as rules
use Rattle.lab_model.specs.Rules.{FaultSeen, PartSeen, of_budget, of_bundle, of_history, of_limits, of_log, of_script, of_table}

-- a part without where its name lies in memory
abbrev pub part_seen : PartName → PartSeen
part_seen names.Bundle = of_bundle
part_seen (names.Table name) = of_table name.now
part_seen names.Script = of_script
part_seen (names.Log name) = of_log name.now
part_seen names.Limits = of_limits
part_seen names.Budget = of_budget
part_seen names.History = of_history

-- a fault without where its part's name lies in memory
abbrev pub fault_seen : Fault → FaultSeen
fault_seen fault =
    record { part = part_seen fault.part; line = fault.line; rule = fault.rule }

-- the fault that a refusal tells; none where memory was wanting
abbrev pub told_by : Refusal → Option FaultSeen
told_by (refusals.Fault fault) = Some (fault_seen fault)
told_by refusals.NoMemory = None

-- the rule that a target's fault breaks
abbrev pub target_rule : TargetFault → Rule
target_rule targets.Args = rules.Args
target_rule targets.Number = rules.Number
target_rule targets.Interval = rules.Interval
target_rule targets.Feature = rules.Feature
target_rule targets.Conflict = rules.Conflict
target_rule targets.Value = rules.Value
target_rule targets.BlockSize = rules.BlockSize
target_rule targets.TooLong = rules.TooLong
target_rule targets.Unknown = rules.Unknown
target_rule targets.Device = rules.Device
target_rule targets.NoMemory = rules.Device

-- the rule that a table's line breaks; none where memory was wanting
abbrev pub table_rule : Why → Option Rule
table_rule whys.TooManyLines = Some rules.TooManyLines
table_rule whys.Args = Some rules.Args
table_rule whys.Number = Some rules.Number
table_rule whys.ZeroLength = Some rules.ZeroLength
table_rule whys.Gap = Some rules.Gap
table_rule whys.Empty = Some rules.Empty
table_rule (whys.Target targets.NoMemory) = None
table_rule (whys.Target fault) = Some (target_rule fault)

-- the fault of a rule on a line of a part, if there is one
abbrev pub fault_on : PartSeen → ℕ → Option Rule → Option FaultSeen
fault_on part line rule =
    option_map (λ r. record { part = part; line = line; rule = r }) rule

-- the fault of a bundle's bytes; 0 is the line of those that are of none
abbrev pub bundle_told : BundleFault → Option FaultSeen
bundle_told bundles.TooBig = fault_on of_bundle 0 (Some rules.TooBig)
bundle_told (bundles.NotText line) = fault_on of_bundle line (Some rules.NotText)
bundle_told (bundles.BadHeading line) = fault_on of_bundle line (Some rules.BadHeading)
bundle_told (bundles.Twice line) = fault_on of_bundle line (Some rules.Twice)
bundle_told (bundles.Stray line) = fault_on of_bundle line (Some rules.Stray)
bundle_told bundles.NoScript = fault_on of_bundle 0 (Some rules.NoScript)
bundle_told bundles.NoMemory = None

-- the fault of a table
abbrev pub table_told : List ℕ → ℕ → Why → Option FaultSeen
table_told name line why = fault_on (of_table name) line (table_rule why)

-- the fault of a script
abbrev pub script_told : ScriptFault → Option FaultSeen
script_told (scripts.BadLine line) = fault_on of_script line (Some rules.BadLine)
script_told scripts.NoMemory = None

-- the fault of a log; a wrong header is one of line 1
abbrev pub log_told : List ℕ → LogFault → Option FaultSeen
log_told name logs.Header = fault_on (of_log name) 1 (Some rules.Header)
log_told name (logs.BadLine line) = fault_on (of_log name) line (Some rules.BadLine)
log_told name (logs.Unaligned line) = fault_on (of_log name) line (Some rules.Unaligned)
log_told name (logs.EmptyRange line) = fault_on (of_log name) line (Some rules.EmptyRange)
log_told name (logs.TooLong line) = fault_on (of_log name) line (Some rules.TooLong)
log_told name (logs.TooManyLines line) = fault_on (of_log name) line (Some rules.TooManyLines)
log_told name logs.NoMemory = None

-- the fault of a history
abbrev pub history_told : HistoryFault → Option FaultSeen
history_told (histories.BadLine line) = fault_on of_history line (Some rules.BadLine)
history_told histories.NoMemory = None

-- a refusal tells this fault, or that memory ran out
abbrev pub TellsOf : Option FaultSeen → Refusal → Type 0
TellsOf wanted refusal = IfSome (told_by refusal) (λ fault. wanted ≡ Some fault)
