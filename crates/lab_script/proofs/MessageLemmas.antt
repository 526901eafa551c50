-- The words of a part of a line. Names: words_of, and the part.
use Rattle.lab_model.proofs.Common.{rules, ◌≡◌, ℕ, suc, ◌<◌, true, not, List, [], ◌∷◌, ◌-◌, ◌++◌}
use Rattle.lab_model.proofs.Common.{length, drop, take, get_or, refl, sym, ap, ◌∙◌, arith, Some}
use Rattle.lab_model.proofs.Common.{cases_Bool, append-nil, take_more, filter-append, take-length}
use Rattle.lab_model.proofs.Common.{position, slice_split, onto_first, position_or_len}
use Rattle.lab_model.proofs.Common.{is_blank_byte, words_of-nil, words_of-word}
use Rattle.lab_text.specs.Words.{words_of}
use Rattle.std.proofs.Common.{drop-cons}
use Rattle.std.proofs.lemmas.List.Splits.{length-slice_split}
use Rattle.lab_text.proofs.WordsLemmas.{start-within, word-filled}

-- at the first byte that is no blank a word begins
pub word-begins : (line : List ℕ) (start : ℕ)
    → position (λ b. not (is_blank_byte b)) line ≡ Some start
    → 0 < position_or_len is_blank_byte (drop start line)
word-begins line start found =
    let known = start-within line start found in
    let front : drop start line ≡ get_or line start 0 ∷ drop (suc start) line =
    drop-cons line start 0 known.0 in
    rw front (word-filled (get_or line start 0) (drop (suc start) line) known.1)

-- a part more at the end leaves the first one
onto_first-end : (byte : ℕ) (parts : List (List ℕ)) → 0 < length parts
    → onto_first byte (parts ++ [] ∷ []) ≡ onto_first byte parts ++ [] ∷ []
onto_first-end byte parts filled = search rules

-- a blank at the end makes one more part, which is empty
split-end : (line : List ℕ) (blank : ℕ) → is_blank_byte blank ≡ true
    → slice_split is_blank_byte (line ++ blank ∷ []) ≡ slice_split is_blank_byte line ++ [] ∷ []
split-end [] blank is = search (rules, length-slice_split, onto_first-end, cases_Bool)
split-end (byte ∷ bytes) blank is =
    search (rules, length-slice_split, onto_first-end, cases_Bool, split-end bytes blank is)

-- a blank at the end is no part of a word
pub words_of-end : (line : List ℕ) (blank : ℕ) → is_blank_byte blank ≡ true
    → words_of (line ++ blank ∷ []) ≡ words_of line
unfolding words_of
words_of-end line blank is = search (rules, split-end, filter-append, append-nil)

-- a last byte that is a blank is no part of a word
pub words_of-but_last : (line : List ℕ) → 0 < length line
    → is_blank_byte (get_or line (length line - 1) 0) ≡ true
    → words_of (take (length line - 1) line) ≡ words_of line
words_of-but_last line filled blank =
    sym (words_of-end (take (length line - 1) line) (get_or line (length line - 1) 0) blank)
    ∙ ap words_of (search (rules, take_more, take-length))

-- behind the first word of a line that begins with one stand the other words
pub words_of-after_word : (line : List ℕ)
    → (0 < length line → 0 < position_or_len is_blank_byte line)
    → words_of (drop (position_or_len is_blank_byte line) line) ≡ drop 1 (words_of line)
words_of-after_word [] begins = rw words_of-nil refl
words_of-after_word (byte ∷ bytes) begins =
    sym (ap (drop 1) (words_of-word (byte ∷ bytes) (begins (omega arith))))
