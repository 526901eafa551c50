-- Words as sets of numbers below 64.
use Rattle.std.proofs.Common.{rules, ◌≡◌, ℕ, ◌+◌, ◌^◌, ◌<◌, ◌≤◌, Bool, true, false, length, set}
use Rattle.std.proofs.Common.{arith, inl, inr}
use Rattle.std.specs.Prelude.{count_ones, slice_get}
use Rattle.std.proofs.lemmas.Bool.{cases_lt}
use Rattle.std.proofs.lemmas.Option.{slice_get-get_or}
use Rattle.std.proofs.lemmas.List.{get_or-set_same, get_or_past, set_past}
use Rattle.lab_index.specs.Numbers.{has, members}
use Rattle.lab_index.specs.Words.{marks_of}
use Rattle.lab_index.proofs.Fills.{get_or-fill}
use Rattle.lab_index.proofs.Ranks.{length-bits_of, bits_of-zero, count-marks, count_of-cleared}
use Rattle.lab_index.proofs.Ranks.{count_of-set, length-members}

-- a number from 64 on is in no word
pub has_past_word : (word n : ℕ) → 64 ≤ n → has (marks_of word) n ≡ false
has_past_word word n past = search (rules, get_or_past, length-bits_of)

-- no number is in the word of zero bits
pub has-no_bits : (n : ℕ) → has (marks_of 0) n ≡ false
has-no_bits n = search (rules, bits_of-zero, get_or-fill)

-- a mark past the word changes nothing
pub set_past_word : (word n : ℕ) (mark : Bool) → 64 ≤ n
    → marks_of word ≡ set (marks_of word) n mark
set_past_word word n mark past = search (rules, set_past, length-bits_of)

-- a mark that is set is that of a member
pub has-set_in_word : (word changed n : ℕ) → n < 64
    → marks_of changed ≡ set (marks_of word) n true → has (marks_of changed) n ≡ true
has-set_in_word word changed n below is = search (rules, get_or-set_same, length-bits_of)

-- the ones of a word are as many as its members
pub count-word : (word : ℕ) → word < 2 ^ 64 → count_ones word ≡ length (members (marks_of word))
count-word word fits = rw (length-members, count-marks word fits)

module _ (word new at : ℕ) (fits : word < 2 ^ 64) (new-fits : new < 2 ^ 64) where
  -- a bit more is one more
  pub ones-more : at < 64 → has (marks_of word) at ≡ false
      → marks_of new ≡ set (marks_of word) at true → count_ones new ≡ count_ones word + 1
  ones-more inside clear is =
      grind (arith, count-marks, count_of-set (marks_of word) at, length-bits_of)

  -- a bit less is one less
  pub ones-less : has (marks_of word) at ≡ true → marks_of new ≡ set (marks_of word) at false
      → count_ones new + 1 ≡ count_ones word
  ones-less member is = grind (arith, count-marks, count_of-cleared (marks_of word) at member)

-- what is left of a word has as a member the k-th of the word, so it isn't zero
pub some-left : (word rest left k : ℕ) → word < 2 ^ 64 → k < count_ones word
    → slice_get (members (marks_of rest)) left ≡ slice_get (members (marks_of word)) k → 0 < rest
some-left word rest left k fits below same =
    elim (cases_lt 0 rest) [
      | inl some ↦ some
      | inr not ↦
          let none : rest ≡ 0 = omega arith in
          let inside : k < length (members (marks_of word)) = omega (arith, count-word word fits) in
          let found = slice_get-get_or (members (marks_of word)) k 0 inside in
          absurd (cc (rw (none, bits_of-zero 64) at same, found))
    ]

-- what finds the mark of a number in a word
pub ruleset word_marks = (has_past_word, has-no_bits, set_past_word, has-set_in_word, count-word)
