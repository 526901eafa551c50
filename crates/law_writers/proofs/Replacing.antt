-- The bytes of a sector of which some are replaced, one after another: where one more is, its
-- value is the last that counts.
use Rattle.lab_model.proofs.Common.{◌≡◌, ◌≢◌, ◌∙◌, ◌<◌, ◌++◌, ℕ, suc, zero, true, false}
use Rattle.lab_model.proofs.Common.{List, [], ◌∷◌, ap, arith, cases_Bool, cases_eq}
use Rattle.lab_model.proofs.Common.{inl, inr, nat_lt, nat_tests, refl, slice_set, sym}
use Rattle.std.proofs.lemmas.Bool.{cases_order}
use Rattle.lab_target.specs.declared.verdict.Mark.{Mark}
use Rattle.lab_image.specs.Changes.{marks_behind, marks_below, with_mark}
use Rattle.lab_image.specs.Given.{replaced}

-- two bytes of a sector are set in either order
set-either : (bytes : List ℕ) (i k x y : ℕ) → i ≢ k
    → slice_set (slice_set bytes i x) k y ≡ slice_set (slice_set bytes k y) i x
set-either [] i k x y apart = refl
set-either (byte ∷ bytes) zero zero x y apart = absurd (apart refl)
set-either (byte ∷ bytes) zero (suc k) x y apart = refl
set-either (byte ∷ bytes) (suc i) zero x y apart = refl
set-either (byte ∷ bytes) (suc i) (suc k) x y apart =
    ap (λ more. byte ∷ more) (set-either bytes i k x y (λ same. apart (ap suc same)))

-- of a byte that is set twice the last value counts
set-twice : (bytes : List ℕ) (i x y : ℕ)
    → slice_set (slice_set bytes i x) i y ≡ slice_set bytes i y
set-twice [] i x y = refl
set-twice (byte ∷ bytes) zero x y = refl
set-twice (byte ∷ bytes) (suc i) x y = ap (λ more. byte ∷ more) (set-twice bytes i x y)

-- some changed bytes are replaced, and then others
replaced-both : (marks others : List Mark) (bytes : List ℕ)
    → replaced (marks ++ others) bytes ≡ replaced others (replaced marks bytes)
replaced-both [] others bytes = refl
replaced-both (mark ∷ marks) others bytes =
    replaced-both marks others (slice_set bytes mark.place mark.value)

-- a byte's value before doesn't count where it is set in the end
set-last : (place value : ℕ) (marks : List Mark) (bytes : List ℕ) (before : ℕ)
    → slice_set (replaced marks (slice_set bytes place before)) place value
    ≡ slice_set (replaced marks bytes) place value
set-last place value [] bytes before = set-twice bytes place before value
set-last place value (mark ∷ marks) bytes before = elim (cases_eq mark.place place) [
  | inl is ↦ ap (λ b. slice_set (replaced marks b) place value)
      (ap (λ i. slice_set (slice_set bytes i before) mark.place mark.value) (sym is)
      ∙ set-twice bytes mark.place before mark.value)
  | inr apart ↦ ap (λ b. slice_set (replaced marks b) place value)
      (set-either bytes place mark.place before mark.value (λ same. apart (sym same)))
      ∙ set-last place value marks (slice_set bytes mark.place mark.value) before
]

-- bytes that come before a place are replaced in front of a byte behind it, or after it
below-either : (place late value : ℕ) → place < late → (marks : List Mark) (bytes : List ℕ)
    → replaced (marks_below place marks) (slice_set bytes late value)
    ≡ slice_set (replaced (marks_below place marks) bytes) late value
below-either place late value less [] bytes = refl
below-either place late value less (mark ∷ marks) bytes =
    elim (cases_Bool (nat_lt mark.place place)) [
      | inl is ↦
          let apart : late ≢ mark.place = grind (arith, nat_tests, is, less) in
          rw is (ap (replaced (marks_below place marks))
          (set-either bytes late mark.place value mark.value apart)
          ∙ below-either place late value less marks (slice_set bytes mark.place mark.value))
      | inr not ↦ rw not (below-either place late value less marks bytes)
    ]

module _ (place value : ℕ) where
  -- one more is set behind those that come before it, and in front of those behind it
  between-set : (marks : List Mark) (bytes : List ℕ)
      → replaced (marks_behind place marks)
      (slice_set (replaced (marks_below place marks) bytes) place value)
      ≡ slice_set (replaced marks bytes) place value
  between-set [] bytes = refl
  between-set (mark ∷ marks) bytes = elim (cases_order mark.place place) [
    | inl is ↦
        let low : nat_lt mark.place place ≡ false = grind (arith, nat_tests, is) in
        let high : nat_lt place mark.place ≡ false = grind (arith, nat_tests, is) in
        rw (low, high) (between-set marks bytes ∙ sym (set-last place value marks bytes mark.value)
        ∙ ap (λ i. slice_set (replaced marks (slice_set bytes i mark.value)) place value) (sym is))
    | inr (inl less) ↦
        let low : nat_lt mark.place place ≡ true = grind (arith, nat_tests, less) in
        let high : nat_lt place mark.place ≡ false = grind (arith, nat_tests, less) in
        rw (low, high) (between-set marks (slice_set bytes mark.place mark.value))
    | inr (inr more) ↦
        let low : nat_lt mark.place place ≡ false = grind (arith, nat_tests, more) in
        let high : nat_lt place mark.place ≡ true = grind (arith, nat_tests, more) in
        let apart : place ≢ mark.place = omega (arith, more) in
        rw (low, high) (ap (replaced (marks_behind place marks)) (set-either
        (replaced (marks_below place marks) bytes) place mark.place value mark.value apart
        ∙ ap (λ b. slice_set b place value)
        (sym (below-either place mark.place mark.value more marks bytes)))
        ∙ between-set marks (slice_set bytes mark.place mark.value))
  ]

  -- so where one byte more is changed, it is set behind all that were changed before
  pub with_byte-sets : (marks : List Mark) (bytes : List ℕ)
      → replaced (with_mark marks (record { place = place; value = value })) bytes
      ≡ slice_set (replaced marks bytes) place value
  with_byte-sets marks bytes = replaced-both (marks_below place marks)
      (record { place = place; value = value } ∷ marks_behind place marks) bytes
      ∙ between-set marks bytes
