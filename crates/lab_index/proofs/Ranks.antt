-- Counts of marks, and the members by their ranks. Names: the left side of what is shown. The bits
-- of a word as marks. Names: the left side of what is shown.
use Rattle.std.proofs.Common.{add-zero, rules, ◌≡◌, ℕ, zero, suc, ◌+◌, ◌<◌, ◌≤◌, Bool, true, false}
use Rattle.std.proofs.Common.{[], ◌∷◌, ◌++◌, Some, length, take, set, get_or, replicate, cond, refl}
use Rattle.std.proofs.Common.{ap, ◌∙◌, arith, ◌≢◌, ◌/◌, ◌%◌, ◌^◌, eqb}
use Rattle.std.specs.Prelude.{slice_get, count_ones}
use Rattle.lab_index.specs.Numbers.{Marks, members_from}
use Rattle.lab_index.specs.Words.{count_of, bits_of, marks_of}
use Rattle.std.specs.Int.{bit_at}
use Rattle.std.proofs.Math.Nat.{mod-one}
use Rattle.std.specs.Int.Count.{ones_step}
use Rattle.std.proofs.lemmas.Grind.{get_or-set_at}
use Rattle.std.proofs.lemmas.Bool.Decides.{nat_tests}
use Rattle.std.proofs.lemmas.List.{ext_get_or, length-set, get_or-set_other}
use Rattle.std.proofs.lemmas.Nat.{mod-pow-add, ones_le_self}
use Rattle.std.proofs.lemmas.Nat.Bits.{bit_at_lowest, bit_at-suc}

-- marks end to end are counted apart
pub count_of-append : (front back : Marks)
    → count_of (front ++ back) ≡ count_of front + count_of back
count_of-append [] back = omega arith
count_of-append (mark ∷ front) back = search (rules, count_of-append front back)

-- where a count passes k at a place, the mark there is set, and k come before it
pub set_where_passed : (marks : Marks) (place k : ℕ) → place < length marks
    → count_of (take place marks) ≤ k → k < count_of (take (suc place) marks)
    → (get_or marks place false ≡ true) × (count_of (take place marks) ≡ k)
set_where_passed [] place k below before after = search rules
set_where_passed (true ∷ marks) zero k below before after = search rules
set_where_passed (false ∷ marks) zero k below before after = search rules
set_where_passed (true ∷ marks) (suc place) zero below before after = search rules
set_where_passed (true ∷ marks) (suc place) (suc k) below before after =
    search (rules, set_where_passed marks place k (omega arith) (omega arith) (omega arith))
set_where_passed (false ∷ marks) (suc place) k below before after =
    search (rules, set_where_passed marks place k (omega arith) before after)

-- a mark that is set where it was clear is one more
pub count_of-set : (marks : Marks) (place : ℕ) → place < length marks
    → get_or marks place false ≡ false → count_of (set marks place true) ≡ suc (count_of marks)
count_of-set (_ ∷ marks) (suc place) inside clear = search (rules, count_of-set marks place)
count_of-set _ _ inside clear = search rules

-- a mark that is cleared where it was set is one less
pub count_of-cleared : (marks : Marks) (place : ℕ) → get_or marks place false ≡ true
    → suc (count_of (set marks place false)) ≡ count_of marks
count_of-cleared (_ ∷ marks) (suc place) is = search (rules, count_of-cleared marks place is)
count_of-cleared _ _ is = search rules

-- there are as many members as marks are set
pub length-members : (number : ℕ) (marks : Marks)
    → length (members_from number marks) ≡ count_of marks
length-members number [] = refl
length-members number (mark ∷ marks) = search (rules, length-members (suc number) marks)

-- a member's rank is the count of the marks before it
pub slice_get-members : (number : ℕ) (marks : Marks) (place : ℕ)
    → get_or marks place false ≡ true
    → slice_get (members_from number marks) (count_of (take place marks)) ≡ Some (number + place)
slice_get-members number (true ∷ marks) zero set = ap Some (omega arith)
slice_get-members number (_ ∷ marks) (suc place) set =
    slice_get-members (suc number) marks place set ∙ ap Some (omega arith)
slice_get-members number _ _ set = absurd (cc)

-- the lowest mark that is set is the first member, and those behind it are the others
pub members-lowest : (number : ℕ) (marks : Marks) (place : ℕ)
    → get_or marks place false ≡ true
    → ((i : ℕ) → i < place → get_or marks i false ≡ false)
    → members_from number marks ≡ (number + place) ∷ members_from number (set marks place false)
members-lowest number (true ∷ marks) zero is none = rw add-zero
members-lowest number (true ∷ marks) (suc place) is none = absurd (cc (none 0 (omega arith)))
members-lowest number (false ∷ marks) (suc place) is none =
    let next : suc number + place ≡ number + suc place = omega arith in
    rw (← next) (members-lowest (suc number) marks place is (λ i below. none (suc i) (omega arith)))
members-lowest number _ _ is none = absurd (cc)

-- marks that are not set have no members
pub members-clear : (number n : ℕ) → members_from number (replicate n false) ≡ []
members-clear number zero = refl
members-clear number (suc n) = members-clear (suc number) n

-- and change nothing behind others
pub members-append_clear : (number : ℕ) (marks : Marks) (n : ℕ)
    → members_from number (marks ++ replicate n false) ≡ members_from number marks
members-append_clear number [] n = members-clear number n
members-append_clear number (_ ∷ marks) n = search (rules, members-append_clear (suc number) marks)

-- as many bits as were asked for
pub length-bits_of : (n word : ℕ) → length (bits_of n word) ≡ n
unfolding bits_of
length-bits_of zero word = refl
length-bits_of (suc n) word = ap suc (length-bits_of n (word / 2))

-- the mark at a place is the bit there
pub get_or-bits_of : (n word k : ℕ) → k < n
    → get_or (bits_of n word) k false ≡ eqb (bit_at word k) 1
unfolding bits_of
get_or-bits_of zero word k below = search (rules, bit_at_lowest, bit_at-suc)
get_or-bits_of (suc n) word zero below = search (rules, bit_at_lowest, bit_at-suc)
get_or-bits_of (suc n) word (suc k) below =
    search (rules, bit_at_lowest, bit_at-suc, get_or-bits_of n (word / 2) k (omega arith))

-- the first of some bits
pub take-bits_of : (n k word : ℕ) → k ≤ n → take k (bits_of n word) ≡ bits_of k word
unfolding bits_of
take-bits_of (suc n) (suc k) word fits = search (rules, take-bits_of n k (word / 2) (omega arith))
take-bits_of n k word fits = search rules

-- zero has no bit set
pub bits_of-zero : (n : ℕ) → bits_of n 0 ≡ replicate n false
unfolding bits_of
bits_of-zero zero = refl
bits_of-zero (suc n) = ap (λ (rest : Marks). false ∷ rest) (bits_of-zero n)

-- a bit counts as itself
bit_value : (bit : ℕ) → bit < 2 → cond (eqb bit 1) 1 0 ≡ bit
bit_value bit low = grind (arith, nat_tests)

-- the lowest bit and the rest, counted apart
ones_low : (word n : ℕ)
    → count_ones (word % 2 ^ suc n) ≡ word % 2 + count_ones (word / 2 % 2 ^ n)
ones_low word n = grind (arith, mod-pow-add word n 1, ones_step (word % 2 ^ suc n))

-- the bits that are set are the ones of what is left of the word
pub count_of-bits_of : (n word : ℕ) → count_of (bits_of n word) ≡ count_ones (word % 2 ^ n)
unfolding bits_of
count_of-bits_of zero word = search (rules, mod-one, ones_le_self)
count_of-bits_of (suc n) word = search (rules, ones_low, bit_value, count_of-bits_of n (word / 2))

-- one bit of a word is changed: so is one mark
pub bits_of-changed : (n word changed k : ℕ) (mark : Bool) → k < n
    → eqb (bit_at changed k) 1 ≡ mark
    → ((i : ℕ) → i < n → i ≢ k → bit_at changed i ≡ bit_at word i)
    → bits_of n changed ≡ set (bits_of n word) k mark
bits_of-changed n word changed k mark below here others =
    let long = length-bits_of n word in
    ext_get_or false (bits_of n changed) (set (bits_of n word) k mark)
    (rw (length-set, length-bits_of, length-bits_of)) (λ i inside.
    search (rules, length-bits_of, get_or-bits_of, get_or-set_at, get_or-set_other))

-- the bits that are set in a word of 64 are its ones
pub count-marks : (word : ℕ) → word < 2 ^ 64 → count_of (marks_of word) ≡ count_ones word
count-marks word fits = search (rules, count_of-bits_of)
