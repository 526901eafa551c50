-- All living bios have been gone through, so just those are marked to which an event may come.
use Rattle.lab_model.proofs.Common.{rules, ◌≡◌, ℕ, ◌+◌, ◌<◌, false, None, ◌∙◌, inl, inr, arith}
use Rattle.lab_model.proofs.Common.{cases_lt, State, bio_of}
use Rattle.lab_index.specs.Numbers.{Marks}
use Rattle.lab_index.specs.Lists.{IsNextFrom}
use Rattle.lab_state.specs.Index.{goes, is_marked}
use Rattle.lab_state.proofs.Modes.{each-but}

-- no number without a living bio is marked, and those below a number are marked as they are to be
pub record IsMarkedTo {S : Type 0} (s : State S) (marks : Marks) (end : ℕ) : Type 0 where
  pub dead : (number : ℕ) → bio_of s number ≡ None → is_marked marks number ≡ false
  pub done : (number : ℕ) → number < end → is_marked marks number ≡ goes s number

-- the next living one is marked, and those that are passed don't live
pub marked-more : {S : Type 0} (s : State S) (old new : Marks) (least number : ℕ)
    → IsNextFrom s.bios least number
    → is_marked new number ≡ goes s number
    → ((other : ℕ) → (other ≡ number → ⊥) → is_marked new other ≡ is_marked old other)
    → IsMarkedTo s old least → IsMarkedTo s new (number + 1)
marked-more s old new least number next here others so_far = record {
  dead = each-but (λ k. bio_of s k ≡ None → is_marked new k ≡ false) number
      (λ none. here ∙ (search (rules, none)))
      (λ k apart none. others k apart ∙ so_far.dead k none);
  done = each-but (λ k. k < number + 1 → is_marked new k ≡ goes s k) number (λ _. here)
      (λ k apart below. others k apart ∙ elim (cases_lt k least)
      as (λ _. is_marked old k ≡ goes s k) [
        | inl earlier ↦ so_far.done k earlier
        | inr passed ↦ search (rules, next.first k (omega arith) (omega arith))
      ]);
}
