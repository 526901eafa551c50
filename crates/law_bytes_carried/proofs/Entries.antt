-- What a disk serves for a place of an operation is one sector at most, with the bytes that the
-- disk has there after it.
use Rattle.lab_model.proofs.Common.{rules, ◌+◌, ◌<◌, ◌==◌, [], ap, arith, Bool, eq-eqb, false}
use Rattle.lab_model.proofs.Common.{filter_map, inl, if◌then◌else◌, inr, ne_eqb, None, Option, refl}
use Rattle.lab_model.proofs.Common.{Some, suc, true, zero, ℕ, ◌∙◌, ◌∷◌, ◌≡◌, ◌≢◌, ◌≤◌, After, Bio}
use Rattle.lab_model.proofs.Common.{bio_of, cases_lt, cons_option, DevNo, Dm, Ram, range_with_len}
use Rattle.lab_model.proofs.Common.{State}
use Rattle.law_bytes_carried.proofs.Words.{descends, Serve}
use Rattle.law_bytes_carried.specs.Carried.{bytes_after, carried_at, carried_by, carried_if}
use Rattle.law_bytes_carried.specs.Carried.{carried_on, stands_for}
use Rattle.law_bytes_carried.proofs.Seats.{Seat}

-- where f finds nothing at any number, nothing is found
none-found : {X : Type 0} (f : ℕ → Option X) (start count : ℕ) → ((j : ℕ) → start ≤ j
    → j < start + count → f j ≡ None) → filter_map f (range_with_len start count) ≡ []
none-found f start zero none = refl
none-found f start (suc count) none =
    let first = none start (omega arith) (omega arith) in
    let rest = none-found f (start + 1) count
    (λ j from to. none j (omega (arith, from)) (omega (arith, to))) in
    ap (λ o. cons_option o (filter_map f (range_with_len (start + 1) count))) first ∙ rest

-- where it finds something at one number alone, that is found
one-found : {X : Type 0} (f : ℕ → Option X) (start count i : ℕ) (x : X) → start ≤ i
    → i < start + count → f i ≡ Some x → ((j : ℕ) → start ≤ j → j < start + count → j ≢ i
    → f j ≡ None) → filter_map f (range_with_len start count) ≡ x ∷ []
one-found f start zero i x from to there none = absurd (omega (arith, from, to))
one-found {X} f start (suc count) i x from to there none = elim (cases_lt start i) [
  | inl less ↦
      let first = none start (omega arith) (omega arith)
      (λ same. absurd (omega (arith, same, less))) in
      let rest = one-found f (start + 1) count i x (omega (arith, less)) (omega (arith, to)) there
      (λ j above below apart. none j (omega (arith, above)) (omega (arith, below)) apart) in
      ap (λ o. cons_option o (filter_map f (range_with_len (start + 1) count))) first ∙ rest
  | inr over ↦
      let same : start ≡ i = omega (arith, over, from) in
      let first : f start ≡ Some x = ap f same ∙ there in
      let rest = none-found f (start + 1) count (λ j above below. none j (omega (arith, above))
      (omega (arith, below)) (λ is. absurd (omega (arith, is, same, above)))) in
      ap (λ o. cons_option o (filter_map f (range_with_len (start + 1) count))) first
      ∙ ap (λ more. x ∷ more) rest
]

module _ {S : Type 0} (s : State S) (after : After S) (first place at : ℕ) where
  -- where no place of the bio stands for it, nothing is served for it
  pub serves-none : ((i : ℕ) (bio : Bio) → Seat s first place at i bio → ⊥)
      → carried_by s after first place (Serve at) ≡ []
  serves-none none = by_descent (descends s first at) refl
    where
      on : (bio : Bio) → bio_of s at ≡ Some bio → descends s first at ≡ true → (device : DevNo)
          → carried_on s after first place at bio device ≡ []
      on bio lives comes (Dm device) = refl
      on bio lives comes (Ram disk) = none-found _ 0 bio.span.len (λ j from to.
          ap (carried_if after (record { disk = disk; sector = bio.span.first + j }))
          (ne_eqb (stands_for s first at j) place (λ is. none j bio (record {
            lives = lives;
            comes = comes;
            within = omega (arith, to);
            stands = is;
          }))))

      by_bio : (o : Option Bio) → bio_of s at ≡ o → descends s first at ≡ true
          → carried_at s after first place at o ≡ []
      by_bio None is comes = refl
      by_bio (Some bio) lives comes = on bio lives comes bio.device

      by_descent : (test : Bool) → descends s first at ≡ test
          → (if test then carried_at s after first place at (bio_of s at) else []) ≡ []
      by_descent true is = by_bio (bio_of s at) refl is
      by_descent false is = refl

  -- where one place of it does, its sector is
  pub serves-one : (i : ℕ) (bio : Bio) (disk : ℕ) → Seat s first place at i bio
      → bio.device ≡ Ram disk → ((k : ℕ) → Seat s first place at k bio → k ≡ i)
      → carried_by s after first place (Serve at) ≡ record {
        sector = record { disk = disk; sector = bio.span.first + i };
        bytes = bytes_after after (record { disk = disk; sector = bio.span.first + i });
      } ∷ []
  serves-one i bio disk seat on only =
      let found = one-found (λ j. carried_if after (record {
        disk = disk;
        sector = bio.span.first + j;
      }) (stands_for s first at j == place)) 0 bio.span.len i (record {
        sector = record { disk = disk; sector = bio.span.first + i };
        bytes = bytes_after after (record { disk = disk; sector = bio.span.first + i });
      }) (omega arith) (let within = seat.within in omega (arith, within))
      (ap (carried_if after (record { disk = disk; sector = bio.span.first + i }))
      (eq-eqb (stands_for s first at i) place seat.stands)) (λ j from to apart.
      ap (carried_if after (record { disk = disk; sector = bio.span.first + j }))
      (ne_eqb (stands_for s first at j) place (λ is. apart (only j (record {
        lives = seat.lives;
        comes = seat.comes;
        within = omega (arith, to);
        stands = is;
      }))))) in
      search rules
