-- Numbers of words.
use Rattle.std.proofs.Common.{rules, ◌≡◌, ℕ, ◌≤◌, List}
use Rattle.std.specs.Prelude.{Ok}
use Rattle.lab_text.specs.Numbers.{number_of}

-- a number that a word says is at most the greatest that may stand there
pub number_of-within : (word : List ℕ) (max n : ℕ) → number_of word max ≡ Ok n → n ≤ max
unfolding number_of
number_of-within word max n said = search rules
