-- Trees of counts: the second half of the list are the leaves, and the node j counts the nodes
-- 16j to 16j + 15 of the step below it, as far as they are there; at 0 is the count of all leaves
-- (this project's own).
use Rattle.std.specs.Prelude.{◌≡◌, ◌≢◌, ℕ, suc, ◌+◌, ◌-◌, ◌*◌, ◌^◌, ◌<◌, ◌≤◌, List}
use Rattle.std.specs.Prelude.{length, drop, map, sum, take}
use Rattle.std.specs.Prelude.{slice_index, slice_set, count_ones}

-- how many stand in the leaves before the node x of the last step
unfoldable pub before : ℕ → List ℕ → ℕ → ℕ
before leaves counts x = sum (take (x - leaves) (drop leaves counts))

-- node j, so many steps above the leaves, has a leaf below it
pub record IsNode (leaves step j : ℕ) : Type 0 where
  pub some : 0 < j
  pub from : leaves < (j + 1) * 16 ^ step
  pub to : j * 16 ^ step < 2 * leaves

-- node j, so many steps above the leaves, counts what stands in the leaves below it
abbrev pub IsSum : ℕ → List ℕ → ℕ → ℕ → Type 0
IsSum leaves counts step j =
    before leaves counts ((j + 1) * 16 ^ step)
    ≡ before leaves counts (j * 16 ^ step) + slice_index counts j

-- each leaf counts 64 at most, so that no sum overflows
pub record IsLow (leaves : ℕ) (counts : List ℕ) : Type 0 where
  pub size : length counts ≡ 2 * leaves
  pub low : (place : ℕ) → slice_index (drop leaves counts) place ≤ 64

-- each node above the leaves counts these, and at 0 all are counted
pub record AddsUp (leaves : ℕ) (counts : List ℕ) : Type 0 where
  pub low : IsLow leaves counts
  pub all : slice_index counts 0 ≡ sum (drop leaves counts)
  pub sums : (step j : ℕ) → IsNode leaves (suc step) j → IsSum leaves counts (suc step) j

-- the words are words of 64 bits, and the tree's leaves count these
pub record CountsBits (words counts : List ℕ) : Type 0 where
  pub fits : (k : ℕ) → slice_index words k < 2 ^ 64
  pub tree : AddsUp (length words) counts
  pub leaves : drop (length words) counts ≡ map count_ones words

-- the words have a tree of counts of this height, and those before the first are zero
pub record IsCounted (words counts : List ℕ) (height first : ℕ) : Type 0 where
  pub power : 0 < length words → length words ≡ 2 ^ height
  pub short : height ≤ 24
  pub bits : CountsBits words counts
  pub passed : (k : ℕ) → k < first → slice_index words k ≡ 0

-- the tree's leaves count these words, but for one in whose place another word is counted
pub record HasCountsBut (words counts : List ℕ) (at : ℕ) : Type 0 where
  pub word : ℕ
  pub bits : CountsBits (slice_set words at word) counts

-- the words have such a tree, and those before the first are zero but for that one
pub record IsCountedBut (words counts : List ℕ) (height first at : ℕ) : Type 0 where
  pub power : 0 < length words → length words ≡ 2 ^ height
  pub short : height ≤ 24
  pub bits : HasCountsBut words counts at
  pub passed : (k : ℕ) → k ≢ at → k < first → slice_index words k ≡ 0
