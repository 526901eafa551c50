-- Texts break a rule, which is seen, or are a scenario, so a job on any bytes has an output.
use Rattle.lab_model.proofs.Common.{◌≡◌, inl, inr, List, [], ◌∷◌, Option, None, Result, Ok, Err}
use Rattle.lab_model.proofs.Common.{ap, refl, ◌∙◌, Some, Lawful, Meaning, budget, first_of}
use Rattle.lab_model.proofs.Common.{BundleFault}
use Rattle.std.specs.Option.{option_and_then}
use Rattle.lab_model.specs.declared.event.Event.{Event}
use Rattle.lab_text.specs.Bundle.{bundle_faults}
use Rattle.lab_rulebook.specs.PartsOf.{Texts, parts_of_texts}
use Rattle.lab_rulebook.specs.IsAccepted.{Verified}
use Rattle.lab_refusal.specs.Faults.{bundle_told}
use Rattle.lab_model.specs.Rules.{FaultSeen}
use Rattle.lab_verify.specs.ReadFaults.{read_fault}
use Rattle.lab_verify.specs.Verdict.{IsRuleFault, IsScenario}
use Rattle.dmlab_run.specs.Histories.{histories_of}
use Rattle.dmlab_run.specs.Lines.{Output, refused_for}
use Rattle.dmlab_run.specs.Output.{IsOutput, Judges, TellsJob, bundle_fault, history_for}
use Rattle.law_one_output.specs.Exact.{HasOutput}
use Rattle.law_one_output.proofs.AnswersTold.{HasAnswer, IsSeen, job-history-told, job-told}
use Rattle.law_one_output.proofs.BundleTold.{clean-texts, first-told}
use Rattle.law_one_output.proofs.Decide.{cases_Option}
use Rattle.law_one_output.proofs.FirstSpot.{has-verdict}
use Rattle.lab_rulebook.specs.Walked.{scenario_of}
use Rattle.law_one_output.proofs.ReadWhole.{faultless-readable}

module _ {S : Type 0} (m : Meaning S) (lawful : Lawful m) (texts : Texts) where
  -- texts without a fault of reading are judged, and it is told: the fault of a rule, which is
  -- seen, or what a scenario has to tell
  rules-told : (events : List Event) (Tells : Verified S → List Event → Output → Type 0)
      → ((accepted : Verified S) → IsScenario m texts accepted → HasAnswer (Tells accepted events))
      → read_fault m texts ≡ None → HasAnswer (Judges m texts (Ok events) Tells)
  rules-told events Tells tells none =
      let readable = faultless-readable m lawful texts none in
      elim (has-verdict m (parts_of_texts m texts)) [
        | inl told ↦
            let broken : IsRuleFault m texts told.0 =
            record { readable = readable; is_told = told.1 } in
            (refused_for told.0, inl (told.0, inr broken, refl))
        | inr keeps ↦
            let accepted : Verified S = record {
              scenario = scenario_of m (parts_of_texts m texts);
              budget = budget m (scenario_of m (parts_of_texts m texts));
            } in
            let is : IsScenario m texts accepted =
            record { readable = readable; keeps = keeps; scenario = refl; budget = refl } in
            let told = tells accepted is in
            (told.0, inr (accepted, is, events, refl, told.1))
      ]

  -- so are texts, by what reading them finds, and what is read of the history
  texts-told : (Tells : Verified S → List Event → Output → Type 0)
      → ((accepted : Verified S) → IsScenario m texts accepted → (events : List Event)
      → HasAnswer (Tells accepted events)) → (history : Result (List Event) (Option FaultSeen))
      → IsSeen history → HasAnswer (Judges m texts history Tells)
  texts-told Tells tells (Ok events) seen = elim (cases_Option (read_fault m texts)) [
    | inl none ↦ rules-told events Tells (λ accepted is. tells accepted is events) none
    | inr is ↦ (refused_for is.0, inl (is.0, inl is.1, refl))
  ]
  texts-told Tells tells (Err fault) seen = elim (cases_Option (read_fault m texts)) [
    | inl none ↦ (
      refused_for seen.0,
      inl (seen.0, inr (faultless-readable m lawful texts none, seen.1), refl),
    )
    | inr is ↦ (refused_for is.0, inl (is.0, inl is.1, refl))
  ]

-- a job on any bytes has an output: the fault of those that are no bundle, or a bundle's answer
pub has-output : {S : Type 0} (m : Meaning S) → Lawful m → HasOutput m
has-output m lawful job bytes = by_faults (bundle_faults bytes) refl
  where
    by_faults : (faults : List BundleFault) → bundle_faults bytes ≡ faults
        → HasAnswer (IsOutput m job bytes)
    by_faults [] none =
        let texts = clean-texts bytes none in
        let told = texts-told m lawful texts.0 (TellsJob m job)
        (λ accepted is events. job-told m lawful texts.0 accepted is job events)
        (history_for job (histories_of bytes)) (job-history-told job (histories_of bytes)) in
        (told.0, inr (none, texts.0, texts.1, told.1))
    by_faults (fault ∷ faults) is =
        let seen = first-told bytes fault (ap first_of is) in
        let first : bundle_fault bytes ≡ Some seen.0 =
        ap (λ l. option_and_then bundle_told (first_of l)) is ∙ seen.1 in
        (refused_for seen.0, inl (seen.0, first, refl))
