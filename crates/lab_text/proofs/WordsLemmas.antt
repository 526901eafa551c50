-- The words of a line, taken off one by one. Names: words_of, and the form of the line.
use Rattle.std.proofs.Common.{rules, ◌≡◌, ℕ, ◌+◌, ◌<◌, ◌≤◌, true, false, not, List, [], ◌∷◌, length}
use Rattle.std.proofs.Common.{take, drop, get_or, refl, ◌∙◌, arith, Some, None, unwrap_or, inl, inr}
use Rattle.std.specs.Prelude.{position, IsTrue, ◌↔◌}
use Rattle.std.specs.List.{list_all, position_or_len}
use Rattle.std.proofs.lemmas.Bool.{cases_Bool, cases_lt, lt-ltb}
use Rattle.std.proofs.lemmas.Grind.{common_steps}
use Rattle.std.proofs.lemmas.List.{drop_more, drop_all, take_all}
use Rattle.std.proofs.lemmas.List.Quantifiers.{position-Some}
use Rattle.std.proofs.lemmas.List.Splits.{slice_split-cons_yes, slice_split_none, slice_split_first}
use Rattle.std.proofs.lemmas.List.Sums.{fails_before_first, passes_at_first, prefix_len-le-length}
use Rattle.std.proofs.Math.Numerals.{one-add}
use Rattle.lab_text.specs.Words.{is_blank_byte, has_byte, words_of}

-- a blank at the front is no part of a word
words_of-blank : (byte : ℕ) (bytes : List ℕ) → is_blank_byte byte ≡ true
    → words_of (byte ∷ bytes) ≡ words_of bytes
unfolding words_of
words_of-blank byte bytes blank = rw (slice_split-cons_yes is_blank_byte byte bytes blank)

-- a line of no byte has no word
pub words_of-nil : words_of [] ≡ []
unfolding words_of
words_of-nil = refl

-- the place of the first blank, or the length, is in the line
pub word-within : (line : List ℕ) → position_or_len is_blank_byte line ≤ length line
word-within line = prefix_len-le-length (λ x. not (is_blank_byte x)) line

-- a line that begins with a word is the word, and the words from its first blank on
pub words_of-word : (line : List ℕ) → 0 < position_or_len is_blank_byte line
    → words_of line ≡ take (position_or_len is_blank_byte line) line
    ∷ words_of (drop (position_or_len is_blank_byte line) line)
unfolding words_of
words_of-word line filled =
    let n = position_or_len is_blank_byte line in
    let bound = word-within line in
    let has : has_byte (take n line) ≡ true =
    lt-ltb 0 (length (take n line)) (grind (arith, common_steps)) in
    elim (cases_lt n (length line)) [
      | inl within ↦
          let blank = passes_at_first is_blank_byte line 0 within in
          rw (slice_split_first is_blank_byte line 0 within, has, drop_more line n 0 within)
          (rw (slice_split-cons_yes is_blank_byte _ _ blank))
      | inr past ↦
          let whole = take_all n line past in
          rw (slice_split_none is_blank_byte line
          (λ k e m. fails_before_first is_blank_byte line k e (omega arith)))
          (rw (drop_all n line past, whole, rw whole at has))
    ]

-- the place of the first byte that is no blank
abbrev pub word_start : List ℕ → ℕ
word_start line = position_or_len (λ b. not (is_blank_byte b)) line

-- the blanks at the front are no part of a word
words_of-skip : (line : List ℕ) → words_of line ≡ words_of (drop (word_start line) line)
words_of-skip [] = refl
words_of-skip (byte ∷ bytes) =
    elim (cases_Bool (is_blank_byte byte)) [
      | inl blank ↦ rw (words_of-blank byte bytes blank, blank, one-add) (words_of-skip bytes)
      | inr filled ↦ rw filled
    ]

-- the place of the first blank, or else the length
pub position-unwrap_or : (line : List ℕ)
    → unwrap_or (position is_blank_byte line) (length line) ≡ position_or_len is_blank_byte line
position-unwrap_or line = search (rules, word-within)

-- the place of the first byte that is no blank is in the line, and it is no blank
pub start-within : (line : List ℕ) (start : ℕ) → position (λ b. not (is_blank_byte b)) line
    ≡ Some start
    → (start < length line) × (is_blank_byte (get_or line start 0) ≡ false) ×
    (word_start line ≡ start)
start-within line start found = search (rules, position-Some)

-- where the first byte is no blank, a word begins
pub word-filled : (byte : ℕ) (bytes : List ℕ) → is_blank_byte byte ≡ false
    → 0 < position_or_len is_blank_byte (byte ∷ bytes)
word-filled byte bytes e = rw e (omega arith)

-- from the first byte that is no blank on stand the first word, and the words after it
pub words_of-next : (line : List ℕ) (start : ℕ) → position (λ b. not (is_blank_byte b)) line
    ≡ Some start
    → words_of line ≡ take (position_or_len is_blank_byte (drop start line)) (drop start line)
    ∷ words_of (drop (position_or_len is_blank_byte (drop start line)) (drop start line))
words_of-next line start found =
    let known = start-within line start found in
    let filled : 0 < position_or_len is_blank_byte (drop start line) =
    rw (drop_more line start 0 known.0)
    (word-filled (get_or line start 0) (drop (start + 1) line) known.1) in
    words_of-skip line ∙ rw known.2 (words_of-word (drop start line) filled)

-- a line of blanks has no word
pub words_of-none : (line : List ℕ) → position (λ b. not (is_blank_byte b)) line ≡ None
    → words_of line ≡ []
words_of-none line none = search (rules, words_of-skip, drop_all, words_of-nil)

-- a line has no word exactly where each of its bytes is a blank
pub words_of-nil-iff : (line : List ℕ) → IsTrue (list_all is_blank_byte line) ↔ (words_of line ≡ [])
words_of-nil-iff [] = ((λ _. words_of-nil), (λ _. refl))
words_of-nil-iff (byte ∷ bytes) =
    elim (cases_Bool (is_blank_byte byte)) [
      | inl blank ↦ rw (words_of-blank byte bytes blank, blank) (words_of-nil-iff bytes)
      | inr filled ↦
          let word = words_of-word (byte ∷ bytes) (word-filled byte bytes filled) in
          rw filled ((λ h. cc), (λ none. cc))
    ]
