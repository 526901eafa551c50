-- What is answered for a bundle: that its scenario is accepted, or its first fault (this project's
-- own).
use Rattle.std.specs.Prelude.{◌≡◌, ◌⊎◌, Some, Result, Ok, Err}
use Rattle.lab_target.specs.Meaning.{Meaning}
use Rattle.lab_model.specs.Cost.{budget}
use Rattle.lab_model.specs.Rules.{FaultSeen}
use Rattle.lab_rulebook.specs.Accepted.{Accepted}
use Rattle.lab_rulebook.specs.Told.{IsTold}
use Rattle.lab_rulebook.specs.Walked.{scenario_of}
use Rattle.lab_rulebook.specs.PartsOf.{IsReadable, Texts, parts_of_texts}
use Rattle.lab_rulebook.specs.IsAccepted.{Verified}
use Rattle.lab_refusal.specs.declared.fault.Refusal.{Refusal}
use Rattle.lab_refusal.specs.declared.fault.Refusal.TheVariants.{Fault, NoMemory}
use Rattle.lab_refusal.specs.Faults.{fault_seen}
use Rattle.lab_verify.specs.ReadFaults.{read_fault}

-- some texts can be read and break none of the rules, and this is their scenario and its budget
pub record IsScenario {S : Type 0} (m : Meaning S) (texts : Texts) (accepted : Verified S)
    : Type 0 where
  pub readable : IsReadable m texts
  pub keeps : Accepted m (parts_of_texts m texts)
  pub scenario : accepted.scenario ≡ scenario_of m (parts_of_texts m texts)
  pub budget : accepted.budget ≡ budget m accepted.scenario

-- some texts can be read, and the fault that is told of the rules they break is this one
pub record IsRuleFault {S : Type 0} (m : Meaning S) (texts : Texts) (seen : FaultSeen)
    : Type 0 where
  pub readable : IsReadable m texts
  pub is_told : IsTold m (parts_of_texts m texts) seen

-- the first fault of some texts: that of reading them, or of the rules where there is none
abbrev pub IsFirstFault : {S : Type 0} → Meaning S → Texts → FaultSeen → Type 0
IsFirstFault m texts seen = (read_fault m texts ≡ Some seen) ⊎ IsRuleFault m texts seen

-- what is answered for some texts: their scenario, or their first fault; nothing is said where
-- memory was wanting
abbrev pub IsVerdict : {S : Type 0} → Meaning S → Texts → Result (Verified S) Refusal → Type 0
IsVerdict m texts (Ok accepted) = IsScenario m texts accepted
IsVerdict m texts (Err (Fault fault)) = IsFirstFault m texts (fault_seen fault)
IsVerdict m texts (Err NoMemory) = Unit {0}
