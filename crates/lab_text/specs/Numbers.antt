-- Decimal numbers (this project's own).
use Rattle.std.specs.Prelude.{ℕ, Bool, ◌&&◌, not, nat_lt, nat_le, if◌then◌else◌, List, ◌∷◌, length, decimal, Option, Result, Ok, Err}
use Rattle.std.specs.List.{flat_map, list_all}
use Rattle.std.specs.Char.{is_ascii_digit}
use Rattle.std.specs.Result.{result_ok}
use Rattle.std.specs.Str.Parse.{digits_value}
use Rattle.lab_text.specs.declared.numbers.NumberFault.{NumberFault}
use Rattle.lab_text.specs.declared.numbers.NumberFault.TheVariants.{NotANumber, TooLarge}

-- the word is 1 to 20 decimal digits
abbrev pub is_number : List ℕ → Bool
is_number word = nat_lt 0 (length word) && nat_le (length word) 20 && list_all is_ascii_digit word

-- the value of a word of digits
abbrev pub value_of : List ℕ → ℕ
value_of digits = digits_value 10 digits

-- what the word says as a number of at most max
unfoldable pub number_of : List ℕ → ℕ → Result ℕ NumberFault
number_of word max =
    if not (is_number word) then Err NotANumber
    else (if nat_le (value_of word) max then Ok (value_of word) else Err TooLarge)

-- the number that the word spells, if it is one of at most max
abbrev pub number_to : ℕ → List ℕ → Option ℕ
number_to max word = result_ok (number_of word max)

-- numbers with a space before each
abbrev pub spaced_numbers : List ℕ → List ℕ
spaced_numbers numbers = flat_map (λ number. 32 ∷ decimal number) numbers
