-- What single steps find in a bundle, and what they tell of its refusal (this project's own).
use Rattle.std.specs.Prelude.{◌≡◌, ◌⊎◌, ℕ, List, [], ◌++◌, Bool, true, false, Option, Some, None}
use Rattle.std.specs.Prelude.{IfSome}
use Rattle.std.specs.Prelude.{Result, Err, ◌==◌, not, codes, decimal, map}
use Rattle.std.specs.String.{string_bytes}
use Rattle.lab_text.specs.Bundle.{bundle_faults}
use Rattle.lab_target.specs.Meaning.{Meaning}
use Rattle.lab_model.specs.declared.event.Event.{Event}
use Rattle.lab_model.specs.Effect.{IsComplete}
use Rattle.lab_model.specs.Report.{report}
use Rattle.lab_model.specs.Scenario.{Scenario}
use Rattle.lab_model.specs.State.{State}
use Rattle.lab_rulebook.specs.PartsOf.{HasTexts, Texts}
use Rattle.lab_rulebook.specs.IsAccepted.{Verified}
use Rattle.lab_refusal.specs.Faults.{fault_seen, told_by}
use Rattle.lab_model.specs.Rules.{FaultSeen}
use Rattle.lab_refusal.specs.declared.fault.Refusal.{Refusal}
use Rattle.lab_model.specs.Rules.{rule_number}
use Rattle.lab_verify.specs.Verdict.{IsScenario}
use Rattle.lab_core.specs.declared.audit.AuditFault.{AuditFault}
use Rattle.lab_core.specs.declared.audit.AuditFault.TheVariants.{NotEnabled, Unfinished, NoMemory}
use Rattle.dmlab_run.specs.Lines.{Output, refused_for, refused_with}
use Rattle.dmlab_run.specs.Output.{IsFirst, bundle_fault}
use Rattle.dmlab_run.specs.declared.outcome.Answer.{Answer}

-- what an answer tells
abbrev pub told_of : Answer → Output
told_of answer = record {
  refused = answer.refused;
  found = answer.found;
  text = answer.text.items;
  besides = string_bytes answer.besides;
  others = map fault_seen answer.others.items;
}

-- where the answer refuses a bundle, these bytes are the bundle's
abbrev pub IsRefusalOf : List ℕ → List ℕ → Answer → Type 0
IsRefusalOf bytes bundle answer = answer.refused ≡ true → bytes ≡ bundle

-- the fault that a refusal tells is told
abbrev pub TellsRefusal : Refusal → Output → Type 0
TellsRefusal refusal told =
    (seen : FaultSeen) × (told_by refusal ≡ Some seen) × (told ≡ refused_for seen)

-- the fault that is told, if one is, is of a rule of the verifier
abbrev pub is_told_by_rules : Option FaultSeen → Bool
is_told_by_rules None = false
is_told_by_rules (Some seen) = not (rule_number seen.rule == 0)

-- no events were read, and this refusal tells the fault, or that memory ran out
abbrev pub IsUnread : Result (List Event) (Option FaultSeen) → Refusal → Type 0
IsUnread history refusal = IfSome (told_by refusal) (λ seen. history ≡ Err (Some seen))

-- the text is the report of these events, which are a complete run
abbrev pub IsReportOf : {S : Type 0} → Meaning S → Scenario S → List Event → List ℕ → Type 0
IsReportOf {S} m c events text =
    (end : State S) × IsComplete m c events end × (text ≡ report m c events end)

-- what is told of events that are no complete run, for this cause
abbrev pub TellsFault : AuditFault → Output → Type 0
TellsFault (NotEnabled place) told = told ≡ refused_with (codes "not a run at " ++ decimal place)
TellsFault (Unfinished place) told = told ≡ refused_with (codes "unfinished at " ++ decimal place)
TellsFault NoMemory told = ⊥

-- the bytes are a bundle, and its texts are this scenario with its budget
pub record HasScenario {S : Type 0} (m : Meaning S) (bytes : List ℕ) (accepted : Verified S)
    : Type 0 where
  pub none : bundle_faults bytes ≡ []
  pub texts : Texts
  pub has : HasTexts bytes texts
  pub scenario : IsScenario m texts accepted

-- the bytes are a bundle, and this is the first fault of its texts and of what is read of its
-- history
pub record HasTextsFault {S : Type 0} (m : Meaning S) (bytes : List ℕ)
    (history : Result (List Event) (Option FaultSeen)) (seen : FaultSeen) : Type 0 where
  pub none : bundle_faults bytes ≡ []
  pub texts : Texts
  pub has : HasTexts bytes texts
  pub first : IsFirst m texts history seen

-- the first fault of some bytes: that of the bundle as such, or of its texts and its history where
-- there is none
abbrev pub HasFirstFault : {S : Type 0} → Meaning S → List ℕ
    → Result (List Event) (Option FaultSeen) → FaultSeen → Type 0
HasFirstFault m bytes history seen =
    (bundle_fault bytes ≡ Some seen) ⊎ HasTextsFault m bytes history seen
