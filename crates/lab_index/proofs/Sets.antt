-- What callers use: a set's members by rank are just the numbers whose mark is set. Numbers and
-- their words: the bit that is read or changed is the number's mark.
use Rattle.std.proofs.Common.{rules, ◌≡◌, ℕ, zero, suc, ◌+◌, true, false, [], ◌∷◌, Some, slice_get}
use Rattle.std.proofs.Common.{take, ap, arith, ◌/◌, ◌%◌, ◌<◌, Bool, List, length, set, get_or}
use Rattle.lab_index.specs.Numbers.{Marks, has, members_from}
use Rattle.lab_index.specs.Words.{count_of, marks_of, row_of}
use Rattle.std.proofs.lemmas.Grind.{get_or_default_zero}
use Rattle.std.proofs.lemmas.List.{get_or_read, set-get_or}
use Rattle.lab_index.proofs.Members.{length-row_of, get_or-row_of, set-row_of}

-- the member at a rank is the first number and so many, where the mark of the last of them is set,
-- and as many marks before it as the rank says
pub has_rank : (first : ℕ) (marks : Marks) (k n : ℕ)
    → slice_get (members_from first marks) k ≡ Some n
    → (place : ℕ) × (n ≡ first + place) × (has marks place ≡ true)
    × (count_of (take place marks) ≡ k)
has_rank first [] k n found = absurd (cc)
has_rank first (true ∷ marks) zero n found = search rules
has_rank first (true ∷ marks) (suc k) n found =
    let behind = has_rank (suc first) marks k n found in
    (suc behind.0, omega (arith, behind.1), behind.2, ap suc behind.3)
has_rank first (false ∷ marks) k n found =
    let behind = has_rank (suc first) marks k n found in
    (suc behind.0, omega (arith, behind.1), behind.2, behind.3)

module _ (words : List ℕ) (marks : Marks) (n : ℕ) (is : row_of words ≡ marks)
    (below : n < length marks) where
  -- the word of a number below the reach
  pub inside_words : n / 64 < length words
  inside_words = search (rules, length-row_of)

  -- the bit that is changed in it is the number's mark
  pub set-read : (word changed : ℕ) (mark : Bool) → word ≡ get_or words (n / 64) word
      → marks_of changed ≡ set (marks_of word) (n % 64) mark
      → row_of (set words (n / 64) changed) ≡ set marks n mark
  set-read word changed mark read same = search (rules, inside_words, get_or_read, set-row_of)

-- the bit that is read in it is the number's mark
pub mark-read : (words : List ℕ) (n : ℕ) → n < length (row_of words)
    → has (row_of words) n ≡ has (marks_of (get_or words (n / 64) 0)) (n % 64)
mark-read words n below = search (rules, inside_words, get_or-row_of)

-- a mark that is put where it stands changes nothing
pub set-standing : (marks : Marks) (n : ℕ) (mark : Bool) → mark ≡ has marks n
    → marks ≡ set marks n mark
set-standing marks n mark stands = search (rules, set-get_or)

-- what finds a number's mark in its word
pub ruleset by_words = (length-row_of, mark-read, set-standing, get_or_default_zero)
