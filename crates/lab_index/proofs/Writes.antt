-- A tree of counts while its leaves are filled, the first word's first. Words with a tree of
-- counts, where one of them is replaced.
use Rattle.std.proofs.Common.{rules, ◌≡◌, ℕ, suc, ◌+◌, ◌-◌, ◌<◌, List, ◌++◌, length, take, set}
use Rattle.std.proofs.Common.{get_or, ◌∙◌, arith, sum, replicate, append_assoc, ◌^◌, drop}
use Rattle.std.specs.Prelude.{count_ones, map}
use Rattle.std.proofs.lemmas.List.{drop-replicate, length-take-le, set-append_right, length-map}
use Rattle.std.proofs.lemmas.List.{map-append, take_more, get_or-drop, get_or-map, map-set, take_at}
use Rattle.std.proofs.lemmas.List.{length-set, get_or-set_other}
use Rattle.std.proofs.lemmas.List.Folds.{sum_by-replicate}
use Rattle.std.proofs.lemmas.List.Sums.{sum_by-take-le}
use Rattle.lab_index.specs.Tree.{before, AddsUp, CountsBits}
use Rattle.std.proofs.lemmas.Grind.{get_or-set_at}

-- so many zeroes
abbrev pub zeroes : ℕ → List ℕ
zeroes n = replicate {A = ℕ} n 0

-- zeroes sum up to zero
pub zero-sum : (n : ℕ) → sum (zeroes n) ≡ 0
zero-sum n = sum_by-replicate (λ (n : ℕ). n) n 0 ∙ omega arith

-- none stand in zero leaves
pub zero-before : (leaves n x : ℕ) → before leaves (zeroes n) x ≡ 0
unfolding before
zero-before leaves n x = search (rules, sum_by-take-le, drop-replicate, zero-sum)

-- the leaves where those of so many words are filled
abbrev pub filled : List ℕ → ℕ → List ℕ
filled words at = map count_ones (take at words) ++ zeroes (length words - at)

module _ (words : List ℕ) (at : ℕ) (inside : at < length words) where
  -- so many are filled
  pub filled-size : length (map count_ones (take at words)) ≡ at
  filled-size = length-map (take at words) count_ones ∙ length-take-le at words (omega arith)

  -- one more
  pub filled-more :
      set (filled words at) at (count_ones (get_or words at 0)) ≡ filled words (at + 1)
  filled-more =
      let front = map count_ones (take at words) in
      let count = count_ones (get_or words at 0) in
      let start : at - at ≡ 0 = omega arith in
      let rest : length words - at ≡ suc (length words - (at + 1)) = omega arith in
      set-append_right front (zeroes (length words - at)) at at count filled-size (omega arith)
      ∙ rw (start, rest, take_more words at 0 inside, map-append, append_assoc)

-- a leaf counts the bits of its word
pub leaf-ones : (words counts : List ℕ) (place : ℕ) → place < length words
    → CountsBits words counts
    → get_or counts (length words + place) 0 ≡ count_ones (get_or words place 0)
leaf-ones words counts place inside bits = search (rules, get_or-drop, get_or-map)

-- a slice of a whole vector is written back
pub written_back : (len : ℕ) (changed old : List ℕ) → length changed ≡ len
    → take len (changed ++ drop (length changed) old) ≡ changed
written_back len changed old whole = take_at changed (drop (length changed) old) len whole

-- a word is replaced, and so is its leaf's count, in a slice of the counts that is written back
pub bits-put : (words counts slice changed : List ℕ) (leaves len place word count : ℕ)
    → CountsBits words counts → leaves ≡ length words → slice ≡ counts → length changed ≡ len
    → place < length words → word < 2 ^ 64 → count ≡ count_ones word → AddsUp leaves changed
    → drop leaves changed ≡ set (drop leaves slice) place count
    → CountsBits (set words place word) (take len (changed ++ drop (length changed) counts))
bits-put words counts slice changed leaves len place word count bits size same whole inside fits
    is tree put = search (rules, written_back, get_or-set_at, get_or-set_other, length-set, map-set)
