-- The digits of 7 bits of a number are no more than its decimal ones.
use Rattle.std.proofs.Common.{◌≡◌, ◌≤◌, ◌<◌, ◌+◌, ◌/◌, ◌^◌, ◌∷◌, ◌++◌, [], ℕ, zero, suc, List, length, arith, ap, ◌∙◌, inl, inr, length-append}
use Rattle.std.specs.Prelude.{decimal}
use Rattle.std.proofs.lemmas.Bool.{cases_lt}
use Rattle.std.proofs.lemmas.Fmt.{decimal_nonempty}
use Rattle.itoa.proofs.Decimal.{length_one, length_step_wide}

-- a number has no more decimal digits than a greater one
digits-grow : (fuel less more : ℕ) → more ≤ fuel → less ≤ more → more < 2 ^ 64
    → length (decimal less) ≤ length (decimal more)
digits-grow zero less more within below fits =
    omega (arith, length_one less (omega arith), decimal_nonempty more fits)
digits-grow (suc fuel) less more within below fits =
    elim (cases_lt less 10) [
      | inl small ↦ omega (arith, length_one less small, decimal_nonempty more fits)
      | inr large ↦
          omega (
            arith,
            length_step_wide less large (omega arith),
            length_step_wide more (omega arith) (omega arith),
            digits-grow fuel (less / 10) (more / 10) (omega arith) (omega arith) (omega arith),
          )
    ]

-- without 7 bits it has at least one less
pub upper-shorter : (number : ℕ) → 128 ≤ number → number < 2 ^ 64
    → length (decimal (number / 128)) + 1 ≤ length (decimal number)
upper-shorter number large fits =
    omega (
      arith,
      length_step_wide number (omega arith) (omega arith),
      digits-grow (number / 10) (number / 128) (number / 10) (omega arith) (omega arith)
          (omega arith),
    )

-- a byte behind others is one more
pub length-behind : (bytes new : List ℕ) (byte : ℕ) → new ≡ bytes ++ byte ∷ []
    → length new ≡ length bytes + 1
length-behind bytes new byte is = ap length is ∙ length-append bytes (byte ∷ [])
