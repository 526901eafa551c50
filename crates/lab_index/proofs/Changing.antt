-- Words of which one changes: in its place another word is counted, until it is counted itself.
use Rattle.std.proofs.Common.{rules, ◌≡◌, ℕ, ◌^◌, ◌<◌, ◌≤◌, List, ◌++◌, length, set}
use Rattle.std.proofs.Common.{get_or, arith, drop, take}
use Rattle.std.specs.Prelude.{count_ones}
use Rattle.std.proofs.lemmas.List.{length-set, set-set, set-get_or, set_past, get_or-set_other}
use Rattle.lab_index.specs.Tree.{AddsUp, CountsBits, HasCountsBut, IsCounted, IsCountedBut}
use Rattle.std.proofs.Math.Pow.{pow_mono}
use Rattle.lab_index.proofs.Writes.{bits-put}

module _ {words counts : List ℕ} {at : ℕ} where
  -- where all are counted, so are all but one
  pub counted-but : CountsBits words counts → HasCountsBut words counts at
  counted-but bits = record { word = get_or words at 0; bits = rw set-get_or bits }

  -- where the one is none of the words, all are counted
  pub counted-all : length words ≤ at → HasCountsBut words counts at → CountsBits words counts
  counted-all past but = rw set_past at but.bits

  -- the one may become another word
  pub counted-changed : (word : ℕ) → HasCountsBut words counts at
      → HasCountsBut (set words at word) counts at
  counted-changed word but = record { word = but.word; bits = rw set-set but.bits }

-- the one is counted, in a slice of the counts that is written back
pub recounted : (words counts slice changed : List ℕ) (len at count : ℕ)
    → HasCountsBut words counts at → slice ≡ counts → length changed ≡ len → at < length words
    → count ≡ count_ones (get_or words at 0) → get_or words at 0 < 2 ^ 64
    → AddsUp (length words) changed
    → drop (length words) changed ≡ set (drop (length words) slice) at count
    → CountsBits words (take len (changed ++ drop (length changed) counts))
recounted words counts slice changed len at count but same whole inside is fits tree put =
    let old = set words at but.word in
    let size : length words ≡ length old = omega (arith, length-set words at but.word) in
    let new = bits-put old counts slice changed (length words) len at (get_or words at 0) count
    but.bits size same whole (omega (arith, size)) fits is tree put in
    rw (set-set words at but.word (get_or words at 0), set-get_or words at 0) at new

module _ {words counts : List ℕ} {height first at : ℕ}
    (but : IsCountedBut words counts height first at) where
  -- there are at most 2 ^ 24 words
  pub few-words_but : length words ≤ 2 ^ 24
  few-words_but = search (rules, pow_mono)

  -- the one may become another word
  pub changed-but : (word : ℕ) → IsCountedBut (set words at word) counts height first at
  changed-but word = record {
    power = λ some. rw length-set (but.power (rw length-set at some));
    short = but.short;
    bits = counted-changed word but.bits;
    passed = λ k apart before. rw get_or-set_other (but.passed k apart before);
  }

-- where all words are counted, any one may be the one
pub counted-any : {words counts : List ℕ} {height first : ℕ} (at : ℕ)
    → IsCounted words counts height first → IsCountedBut words counts height first at
counted-any at all = record {
  power = all.power;
  short = all.short;
  bits = counted-but all.bits;
  passed = λ k _ before. all.passed k before;
}

-- what follows where the word that changes is counted, or is none
pub ruleset counted_ones = (counted-but, counted-all)

-- where the one is counted, another may be the one, and become another word
pub turned : {words counts counted : List ℕ} {height first next at : ℕ} (then word : ℕ)
    → IsCountedBut words counts height first at → CountsBits words counted
    → ((k : ℕ) → k < next → get_or words k 0 ≡ 0)
    → IsCountedBut (set words then word) counted height next then
turned then word but bits passed = changed-but
    (counted-any then (record { power = but.power; short = but.short; bits = bits; passed = passed }))
    word
