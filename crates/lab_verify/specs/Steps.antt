-- What a step through a script answers for a line, and what a replay tells of the logs (this
-- project's own).
use Rattle.std.specs.Prelude.{◌≡◌, ℕ, ◌<◌, List, length, map, Option, Some, None, Result, Ok, Err, slice_get}
use Rattle.std.specs.Borrow.{Bor}
use Rattle.std.specs.Option.{MatchOption}
use Rattle.lab_target.specs.Meaning.{Meaning}
use Rattle.lab_model.specs.declared.rule.Rule.{Rule}
use Rattle.lab_model.specs.Rules.{rule_number}
use Rattle.lab_model.specs.Scenario.{LogPlan}
use Rattle.lab_model.specs.declared.plan.LogLine.{LogLine}
use Rattle.lab_script.specs.Script.{ScriptRow}
use Rattle.lab_script.specs.Task.{Task, replay}
use Rattle.lab_rulebook.specs.Parts.{Parts}
use Rattle.lab_rulebook.specs.ScriptRules.{Breaks}
use Rattle.lab_rulebook.specs.Standing.{Standing as Stands}
use Rattle.lab_rulebook.specs.Walked.{standing_next}
use Rattle.lab_rulebook.specs.PartsOf.{table_part}
use Rattle.lab_refusal.specs.declared.fault.PartName.TheVariants.{Log, Script}
use Rattle.lab_refusal.specs.declared.fault.Refusal.{Refusal}
use Rattle.lab_refusal.specs.declared.fault.Refusal.TheVariants.{Fault, NoMemory}
use Rattle.lab_standing.specs.Image.{text_of}
use Rattle.lab_standing.specs.declared.named.NamedTable.{NamedTable}
use Rattle.lab_model.specs.declared.phase.Phase.{Phase}
use Rattle.lab_model.specs.declared.phase.Phase.TheVariants.{Before}
use Rattle.lab_standing.specs.declared.standing.Standing.{Standing}
use Rattle.lab_refusal.specs.Refusals.{refusal_at}
use Rattle.lab_standing.specs.Stands.{standing_of}
use Rattle.lab_rule_checks.specs.Logs.{IsFirstBroken, NoneBroken}
use Rattle.lab_verify.specs.declared.parts.NamedLog.{NamedLog}
use Rattle.lab_verify.specs.NamedLogs.{named_log_part}

-- the logs are as they were read, until the replay takes their lines
abbrev pub HasReadLogs : {S : Type 0} → Parts S → Phase → List NamedLog → Type 0
HasReadLogs parts phase named = phase ≡ Before → parts.logs ≡ map named_log_part named

-- the parts that are read, in a phase of the script: the tables as their texts say them, and the
-- logs (the script doesn't matter here)
pub record HasReadParts {S : Type 0} (m : Meaning S) (parts : Parts S) (named : List (NamedTable S))
    (named_logs : List NamedLog) (phase : Phase) : Type 0 where
  pub tables : parts.tables ≡ map (λ table. table_part m (text_of table)) named
  pub logs : HasReadLogs parts phase named_logs

-- no command but a replay changes the logs
abbrev pub KeepsLogs : Task → List NamedLog → List NamedLog → Type 0
KeepsLogs task named left = (task ≡ replay → ⊥) → left ≡ named

-- a rule is broken, and none of a lesser number
pub record IsLeast (Broken : Rule → Type 0) (rule : Rule) : Type 0 where
  pub broken : Broken rule
  pub least : (other : Rule) → rule_number other < rule_number rule → Broken other → ⊥

-- what a step answers for a line: no rule is broken, and what stands is what the definition says;
-- or the least rule that is broken is told
abbrev pub StepTells : {S : Type 0} → Meaning S → Parts S → Stands S → Stands S → ScriptRow
    → Result (Unit {0}) Refusal → Type 0
StepTells m parts before behind row (Ok done) =
    ((rule : Rule) → Breaks m parts before row.task rule → ⊥)
    × (behind ≡ standing_next m parts before row.task)
StepTells m parts before behind row (Err NoMemory) = Unit {0}
StepTells m parts before behind row (Err (Fault fault)) =
    (rule : Rule) × IsLeast (Breaks m parts before row.task) rule
    × (Fault fault ≡ refusal_at Script row.number rule)

-- the fault of a log with a name: its first line that breaks a rule is told, if one does
abbrev pub TellsLog : {S : Type 0} → Stands S → Bor (List ℕ) → List LogLine → Option Refusal
    → Type 0
TellsLog s name lines None = NoneBroken s lines (length lines)
TellsLog s name lines (Some refusal) = (told : ℕ × Rule) × IsFirstBroken s lines told
    × (refusal ≡ refusal_at (Log name) told.0 told.1)

-- a fault that was found before stays; else the next log's is told
abbrev pub TellsNext : {S : Type 0} → Stands S → Bor (List ℕ) → List LogLine → Option Refusal
    → Option Refusal → Type 0
TellsNext s name lines None told = TellsLog s name lines told
TellsNext s name lines (Some fault) told = told ≡ Some fault

-- no line of any log breaks a rule
abbrev pub NoLogBroken : {S : Type 0} → Stands S → List LogPlan → Type 0
NoLogBroken s plans = (number : ℕ) (plan : LogPlan) → slice_get plans number ≡ Some plan
    → NoneBroken s plan.lines (length plan.lines)

-- the first line of the first log with a line that breaks a rule: the log's name, the line's number
-- and the least rule that it breaks are told
pub record IsFirstOfLogs {S : Type 0} (s : Stands S) (plans : List LogPlan) (fault : Refusal)
    : Type 0 where
  pub number : ℕ
  pub plan : LogPlan
  pub is_plan : slice_get plans number ≡ Some plan
  pub told : ℕ × Rule
  pub line : IsFirstBroken s plan.lines told
  pub first : (earlier : ℕ) (other : LogPlan) → earlier < number
      → slice_get plans earlier ≡ Some other → NoneBroken s other.lines (length other.lines)
  pub name : Bor (List ℕ)
  pub is_name : name.now ≡ plan.name
  pub refusal : fault ≡ refusal_at (Log name) told.0 told.1

-- what is told of some logs: the first line that breaks a rule, if one does
abbrev pub TellsLogs : {S : Type 0} → Stands S → List LogPlan → Option Refusal → Type 0
TellsLogs s plans told = MatchOption told (NoLogBroken s plans) (IsFirstOfLogs s plans)

-- what a command leaves as the logs' fault: a replay tells the first one, the others change nothing
abbrev pub FaultAfter : {S : Type 0} → Meaning S → Standing S → Standing S → Task → Type 0
FaultAfter m old new replay = TellsLogs (standing_of m old) new.logs.items new.fault
FaultAfter m old new _ = new.fault ≡ old.fault
