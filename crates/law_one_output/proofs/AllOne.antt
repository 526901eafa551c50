-- A check of all parts has one output: what a check writes is one, and so are the faults beside it.
use Rattle.lab_model.proofs.Common.{◌≡◌, ◌∙◌, ℕ, inl, inr, List, [], ◌∷◌, ap, refl, sym, none-some}
use Rattle.lab_model.proofs.Common.{Meaning, Lawful, BundleFault, first_of}
use Rattle.std.proofs.Common.{ap₂}
use Rattle.std.specs.Option.{option_and_then}
use Rattle.lab_text.specs.Bundle.{bundle_faults}
use Rattle.lab_refusal.specs.Faults.{bundle_told}
use Rattle.lab_model.specs.Rules.{FaultSeen}
use Rattle.dmlab_run.specs.AllParts.{AreOthers, other_faults, told_with}
use Rattle.dmlab_run.specs.Histories.{histories_of}
use Rattle.dmlab_words.specs.declared.job.Job.TheVariants.{Check}
use Rattle.law_one_output.specs.Exact.{AllIsOne, HasAllOutput}
use Rattle.law_one_output.proofs.BundleTold.{clean-texts, first-told}
use Rattle.law_one_output.proofs.OutputOne.{output-one, texts-one}
use Rattle.law_one_output.proofs.OutputTold.{has-output}

module _ {S : Type 0} (m : Meaning S) (bytes : List ℕ) where
  -- the faults beside the first one are one list
  others-one : (one other : List FaultSeen) → AreOthers m bytes one → AreOthers m bytes other
      → one ≡ other
  others-one one other (inl first) (inl second) = first.2 ∙ sym second.2
  others-one one other (inl first) (inr second) = absurd (none-some first.0
      (sym (ap (λ l. option_and_then bundle_told (first_of l)) second.0) ∙ first.1))
  others-one one other (inr first) (inl second) = absurd (none-some second.0
      (sym (ap (λ l. option_and_then bundle_told (first_of l)) first.0) ∙ second.1))
  others-one one other (inr first) (inr second) =
      first.3 ∙ ap (λ texts. other_faults m texts (histories_of bytes))
      (texts-one bytes first.1 second.1 first.2 second.2) ∙ sym second.3

  -- and there is one
  has-others : (others : List FaultSeen) × AreOthers m bytes others
  has-others = by_faults (bundle_faults bytes) refl
    where
      by_faults : (faults : List BundleFault) → bundle_faults bytes ≡ faults
          → (others : List FaultSeen) × AreOthers m bytes others
      by_faults [] none =
          let texts = clean-texts bytes none in
          (other_faults m texts.0 (histories_of bytes), inr (none, texts.0, texts.1, refl))
      by_faults (fault ∷ faults) is =
          let seen = first-told bytes fault (ap first_of is) in
          ([], inl (seen.0, ap (λ l. option_and_then bundle_told (first_of l)) is ∙ seen.1, refl))

-- so a check of all parts has one output
pub all-one : {S : Type 0} (m : Meaning S) → Lawful m → AllIsOne m
all-one m lawful bytes one other first second = first.4
    ∙ ap₂ told_with (output-one m lawful Check bytes first.0 second.0 first.2 second.2)
    (others-one m bytes first.1 second.1 first.3 second.3) ∙ sym second.4

-- whatever the bytes are
pub has-all-output : {S : Type 0} (m : Meaning S) → Lawful m → HasAllOutput m
has-all-output m lawful bytes =
    let first = has-output m lawful Check bytes in
    let others = has-others m bytes in
    (told_with first.0 others.0, (first.0, others.0, first.1, others.1, refl))
