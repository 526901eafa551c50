-- Decimal numbers, digit by digit.
use Rattle.std.proofs.Common.{rules, ℕ, ◌+◌, ◌*◌, ◌≤◌, List, [], ◌∷◌, arith}
use Rattle.std.specs.Char.{digit_value}
use Rattle.std.specs.Prelude.{IfSome}
use Rattle.std.specs.Result.{result_ok}
use Rattle.std.specs.Str.Parse.{digits_value_after}
use Rattle.lab_text.specs.Numbers.{number_of}

-- digits after a number make it no smaller
pub digits_value_after-le : (n : ℕ) (digits : List ℕ) → n ≤ digits_value_after 10 n digits
digits_value_after-le n [] = omega arith
digits_value_after-le n (digit ∷ digits) =
    omega (arith, digits_value_after-le (n * 10 + digit_value digit) digits)

-- a number that a word spells is at most the bound
pub number_of-within : (word : List ℕ) (max : ℕ)
    → IfSome (result_ok (number_of word max)) (λ n. n ≤ max)
unfolding number_of
number_of-within word max = search rules
