-- What the walk through a script answers, and what the budget answers behind it (this project's
-- own).
use Rattle.std.specs.Prelude.{◌≡◌, ◌⊎◌, ℕ, ◌<◌, ◌≤◌, length, map, List, None, Some, Result, Ok, Err, slice_get}
use Rattle.lab_target.specs.Meaning.{Meaning}
use Rattle.lab_model.specs.declared.micro.Micro.{Micro}
use Rattle.lab_model.specs.declared.rule.Rule.{Rule}
use Rattle.lab_model.specs.declared.rule.Rule.TheVariants.{V15}
use Rattle.lab_model.specs.Cost.{all_visits, budget}
use Rattle.lab_model.specs.Scenario.{Scenario}
use Rattle.lab_script.specs.Script.{ScriptRow}
use Rattle.lab_rulebook.specs.Accepted.{Accepted, LineBreaks, ReplaysAt, standing_before}
use Rattle.lab_rulebook.specs.Limits.{limit}
use Rattle.lab_rulebook.specs.Parts.{Parts}
use Rattle.lab_rulebook.specs.ScriptRules.{Breaks}
use Rattle.lab_rulebook.specs.Standing.{Standing as Stands}
use Rattle.lab_rulebook.specs.Walked.{bound_log, scenario_of}
use Rattle.lab_rulebook.specs.PartsOf.{IsReadable, Texts, parts_of_texts}
use Rattle.lab_rulebook.specs.IsAccepted.{Verified}
use Rattle.lab_refusal.specs.declared.fault.PartName.TheVariants.{Budget, Script}
use Rattle.lab_refusal.specs.declared.fault.Refusal.{Refusal}
use Rattle.lab_refusal.specs.declared.fault.Refusal.TheVariants.{Fault, NoMemory}
use Rattle.lab_standing.specs.declared.standing.Standing.{Standing}
use Rattle.lab_refusal.specs.Refusals.{refusal_at}
use Rattle.lab_standing.specs.Stands.{standing_of}
use Rattle.lab_verify.specs.Steps.{IsLeast, TellsLogs}

-- no command before a place breaks a rule
abbrev pub NoneBefore : {S : Type 0} → Meaning S → Parts S → ℕ → Type 0
NoneBefore m parts place = (earlier : ℕ) (row : ScriptRow) (rule : Rule) → earlier < place
    → LineBreaks m parts earlier row rule → ⊥

-- the commands before a place were gone over, and break no rule: this stands, and the logs' fault
-- is that of the replay, if it was among them
pub record HasWalked {S : Type 0} (m : Meaning S) (parts : Parts S) (place : ℕ) (s : Standing S)
    : Type 0 where
  pub stands : standing_of m s ≡ standing_before m parts place
  pub free : NoneBefore m parts place
  pub silent : ((at : ℕ) → at < place → ReplaysAt m parts at → ⊥) → s.fault ≡ None
  pub told : (at : ℕ) → at < place → ReplaysAt m parts at
      → TellsLogs (standing_before m parts at)
      (map (bound_log (standing_before m parts at)) parts.logs) s.fault

-- a refusal tells the first command that breaks a rule, and the least rule that it breaks
pub record IsFirstCommand {S : Type 0} (m : Meaning S) (parts : Parts S) (refusal : Refusal)
    : Type 0 where
  pub place : ℕ
  pub row : ScriptRow
  pub rule : Rule
  pub is_row : slice_get parts.script place ≡ Some row
  pub least : IsLeast (Breaks m parts (standing_before m parts place) row.task) rule
  pub first : NoneBefore m parts place
  pub tells : refusal ≡ refusal_at Script row.number rule

-- what a walk through the whole script answers
abbrev pub WalkTells : {S : Type 0} → Meaning S → Parts S → Result (Standing S) Refusal → Type 0
WalkTells m parts (Ok standing) = HasWalked m parts (length parts.script) standing
WalkTells m parts (Err (Fault fault)) = IsFirstCommand m parts (Fault fault)
WalkTells m parts (Err NoMemory) = Unit {0}

-- the scenario of what stands at a script's end, with these steps
abbrev pub scenario_seen : {S : Type 0} → Stands S → List Micro → Scenario S
scenario_seen s steps = record {
  disks = s.disks;
  versions = s.versions;
  micros = steps;
  logs = s.logs;
}

-- the scenario of some texts that can be read, of which only V15 is still to be looked at
pub record AwaitsBudget {S : Type 0} (m : Meaning S) (c : Scenario S) : Type 0 where
  pub texts : Texts
  pub readable : IsReadable m texts
  pub said : c ≡ scenario_of m (parts_of_texts m texts)
  pub keeps : budget m c ≤ limit → all_visits m c ≤ limit → Accepted m (parts_of_texts m texts)

-- a scenario's budget or visited pieces are within their limit
pub record IsWithinLimits {S : Type 0} (m : Meaning S) (c : Scenario S) : Type 0 where
  pub budget : budget m c ≤ limit
  pub visits : all_visits m c ≤ limit

-- a scenario's budget or visited pieces are past their limit
abbrev pub IsPast : {S : Type 0} → Meaning S → Scenario S → Type 0
IsPast m c = (limit < budget m c) ⊎ (limit < all_visits m c)

-- a scenario that is handed over, with its budget
pub record IsHandedOver {S : Type 0} (m : Meaning S) (c : Scenario S) (accepted : Verified S)
    : Type 0 where
  pub scenario : accepted.scenario ≡ c
  pub budget : accepted.budget ≡ budget m c
  pub within : IsWithinLimits m c

-- what is answered for a scenario by its budget
abbrev pub BudgetTells : {S : Type 0} → Meaning S → Scenario S → Result (Verified S) Refusal
    → Type 0
BudgetTells m c (Ok accepted) = IsHandedOver m c accepted
BudgetTells m c (Err (Fault fault)) = IsPast m c × (Fault fault ≡ refusal_at Budget 0 V15)
BudgetTells m c (Err NoMemory) = Unit {0}
