-- The least moment ahead, as the first of the sorted would be: what the clock goes on to is what a
-- walk from moment to moment finds.
use Rattle.std.proofs.Common.{arith, ◌≡◌, ℕ, min, List, [], ◌∷◌, Option, Some, None, filter, fold}
use Rattle.std.proofs.Common.{nat_lt, refl, inl, inr}
use Rattle.std.proofs.lemmas.Bool.{cases_Bool}
use Rattle.std.specs.List.{reduce}
use Rattle.lab_logs.specs.Moments.{least_over, least_with}

-- the lesser of two moments and what lies behind
least_with-min : (a b : ℕ) (other : Option ℕ)
    → least_with (min a b) other ≡ least_with a (least_with b other)
least_with-min a b None = refl
least_with-min a b (Some c) = grind arith

-- the least of a moment and those behind it that lie ahead
fold-least : (now first : ℕ) (moments : List ℕ)
    → Some (fold min first (filter (nat_lt now) moments))
    ≡ least_with first (least_over now moments None)
fold-least now first [] = refl
fold-least now first (moment ∷ more) = elim (cases_Bool (nat_lt now moment)) [
  | inl ahead ↦ rw (
    ahead,
    fold-least now (min first moment) more,
    least_with-min first moment (least_over now more None),
  ) refl
  | inr behind ↦ rw (behind, fold-least now first more) refl
]

-- the least that lies ahead is the one that a walk finds
pub least-ahead : (now : ℕ) (moments : List ℕ)
    → reduce min (filter (nat_lt now) moments) ≡ least_over now moments None
least-ahead now [] = refl
least-ahead now (moment ∷ more) = elim (cases_Bool (nat_lt now moment)) [
  | inl ahead ↦ rw (ahead, fold-least now moment more) refl
  | inr behind ↦ rw (behind, least-ahead now more) refl
]
