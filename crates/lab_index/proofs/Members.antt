-- The bits of words end to end. Names: the left side of what is shown. Members by their ranks: the
-- first count is theirs, and a leaf's bit is the k-th. A set that grows: words of zero bits come
-- behind its words.
use Rattle.std.proofs.Common.{rules, ◌≡◌, ℕ, zero, suc, ◌+◌, ◌-◌, ◌*◌, ◌^◌, ◌<◌, ◌≤◌, Bool, List}
use Rattle.std.proofs.Common.{false, [], ◌∷◌, length, take, set, get_or, replicate, refl, arith}
use Rattle.std.proofs.Common.{length-append, zero-add, sum, drop, ◌++◌, mul-suc, add_comm}
use Rattle.std.specs.Prelude.{count_ones, map}
use Rattle.std.proofs.lemmas.List.{set-append_left, replicate-append-replicate, set-append_right}
use Rattle.std.proofs.lemmas.List.{take-append-le, length-take-le}
use Rattle.std.proofs.lemmas.List.Concat.{get_or-flat_map, flat_map-append}
use Rattle.std.proofs.lemmas.List.Sums.{sum_by-cons}
use Rattle.lab_index.specs.Words.{marks_of, row_of, count_of}
use Rattle.lab_index.proofs.Ranks.{length-bits_of, bits_of-zero, count-marks, count_of-append}
use Rattle.lab_index.proofs.Ranks.{length-members, members-append_clear}
use Rattle.std.proofs.Math.Seq.{take-append-add}
use Rattle.std.proofs.Math.Pow.{pow_mono}
use Rattle.std.proofs.lemmas.Nat.{ones_le_self}
use Rattle.lab_index.specs.Numbers.{members, Marks, KeepsMembers}
use Rattle.lab_index.specs.Tree.{IsCounted}
use Rattle.std.proofs.Math.Nat.{pow-suc}
use Rattle.lab_index.proofs.Fills.{get_or-filled}

-- 64 marks for each word
pub length-row_of : (words : List ℕ) → length (row_of words) ≡ 64 * length words
length-row_of [] = search rules
length-row_of (word ∷ words) = search (rules, length-append, length-bits_of, length-row_of words)

-- the mark at place j of word i, counted over the whole row
pub get_or-row_of : (words : List ℕ) (i j : ℕ) → i < length words → j < 64
    → get_or (row_of words) (64 * i + j) false ≡ get_or (marks_of (get_or words i 0)) j false
get_or-row_of words i j below small =
    search (rules, length-row_of, length-take-le, get_or-flat_map, length-bits_of)

-- a word is replaced by one with mark j changed: the row has that mark changed
pub set-row_of : (words : List ℕ) (i j word : ℕ) (mark : Bool) → i < length words → j < 64
    → marks_of word ≡ set (marks_of (get_or words i 0)) j mark
    → row_of (set words i word) ≡ set (row_of words) (64 * i + j) mark
set-row_of [] i j word mark below small is = absurd (omega arith)
set-row_of (old ∷ words) zero j word mark below small is =
    search (rules, length-bits_of, zero-add, set-append_left)
set-row_of (old ∷ words) (suc i) j word mark below small is =
    let place : 64 * suc i + j - 64 ≡ 64 * i + j = omega arith in
    let rest = set-row_of words i j word mark (omega arith) small is in
    search (rules, set-append_right, length-bits_of)

-- words of zero bits are marks that are not set
pub row_of-zeroes : (n : ℕ) → row_of (replicate n 0) ≡ replicate (64 * n) false
row_of-zeroes zero = refl
row_of-zeroes (suc n) =
    rw (row_of-zeroes n, bits_of-zero 64, replicate-append-replicate, mul-suc, add_comm 64)

-- the marks before place j of word i: the counts of the words before it, and those of the word
pub count_of-take_row : (words : List ℕ) (i j : ℕ) → ((k : ℕ) → get_or words k 0 < 2 ^ 64)
    → i < length words → j ≤ 64
    → count_of (take (64 * i + j) (row_of words))
    ≡ sum (take i (map count_ones words)) + count_of (take j (marks_of (get_or words i 0)))
count_of-take_row [] i j fits below small = absurd (omega arith)
count_of-take_row (word ∷ words) zero j fits below small =
    search (rules, length-bits_of, take-append-le)
count_of-take_row (word ∷ words) (suc i) j fits below small =
    let place : 64 * suc i + j ≡ length (marks_of word) + (64 * i + j) =
    omega (arith, length-bits_of 64 word) in
    let rest = count_of-take_row words i j (λ k. fits (suc k)) (omega arith) small in
    rw (place, take-append-add, count_of-append, rest)
    (rw (count-marks word (fits 0), sum_by-cons (λ n. n)) (omega arith))

-- all marks: the counts of all words
pub count_of-row_of : (words : List ℕ) → ((k : ℕ) → get_or words k 0 < 2 ^ 64)
    → count_of (row_of words) ≡ sum (map count_ones words)
count_of-row_of [] fits = refl
count_of-row_of (word ∷ words) fits =
    let rest = count_of-row_of words (λ k. fits (suc k)) in
    rw (count_of-append, rest, count-marks word (fits 0), sum_by-cons (λ n. n))

-- a member stands in a word
pub some-words : (words : List ℕ) (k : ℕ) → k < length (members (row_of words))
    → 0 < length words
some-words [] k below = absurd (omega arith)
some-words (word ∷ words) k below = omega arith

-- words of zero bits count none
none-first : (words : List ℕ) (first : ℕ) → ((k : ℕ) → k < first → get_or words k 0 ≡ 0)
    → sum (take first (map count_ones words)) ≡ 0
none-first words zero zeroes = refl
none-first [] (suc first) zeroes = refl
none-first (word ∷ words) (suc first) zeroes =
    let rest = none-first words first (λ k below. zeroes (suc k) (omega arith)) in
    rw (sum_by-cons (λ n. n) (count_ones word) (take first (map count_ones words)), rest)
    (rw (zeroes 0 (omega arith)) (omega (arith, ones_le_self 0)))

module _ {words counts : List ℕ} {height first : ℕ}
    (counted : IsCounted words counts height first) where
  -- all that is counted are the members
  pub count-members : get_or counts 0 0 ≡ length (members (row_of words))
  count-members = search (rules, length-members, count_of-row_of)

  -- there are at most 2 ^ 24 words
  pub few-words : length words ≤ 2 ^ 24
  few-words = search (rules, pow_mono)

  -- so the leaves before the first that may count some count none
  pub none-passed : 0 < length words → sum (take first (drop (2 ^ height) counts)) ≡ 0
  none-passed some = search (rules, none-first)

  -- where a word isn't zero, the first that may not be zero is no later
  pub first-until : (at : ℕ) → 0 < count_ones (get_or words at 0) → first ≤ at
  first-until at some = grind (arith, counted.passed at, ones_le_self 0)

-- words of zero bits behind others keep the members
pub keeps-widened : (words wide : List ℕ) (marks : Marks) (n : ℕ) → row_of words ≡ marks
    → wide ≡ words ++ replicate n 0 → KeepsMembers marks (row_of wide)
keeps-widened words wide marks n is same =
    rw (same, flat_map-append marks_of, row_of-zeroes, is) (record {
      same = members-append_clear 0 marks (64 * n);
      marks = λ k. get_or-filled false marks (64 * n) k;
      reach = omega (arith, length-append marks (replicate (64 * n) false));
    })

-- words with words of zero bits behind them, as many as leaves at this height
pub record IsWider (words wide : List ℕ) (height : ℕ) : Type 0 where
  pub few : length words < 2 ^ height
  pub size : length wide ≡ 2 ^ height
  pub same : wide ≡ words ++ replicate (2 ^ height - length words) 0

-- a power that is greater is twice as great
pub twice : (n low high : ℕ) → (0 < n → n ≡ 2 ^ low) → n < 2 ^ high → 2 * n ≤ 2 ^ high
twice n low high power below =
    let up : low < high → 2 ^ suc low ≤ 2 ^ high = λ less. pow_mono less in
    search (rules, pow_mono, pow-suc)
