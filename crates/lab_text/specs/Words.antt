-- The words of a line (this project's own).
use Rattle.std.specs.Prelude.{ℕ, Bool, ◌||◌, ◌==◌, nat_lt, List, ◌∷◌, length, filter}
use Rattle.std.specs.List.{flat_map, slice_split}
use Rattle.lab_text.specs.declared.words.Words.{Words}

-- the byte stands between words: a space or a tab
abbrev pub is_blank_byte : ℕ → Bool
is_blank_byte byte = byte == 32 || byte == 9

-- whether the part has a byte
abbrev pub has_byte : List ℕ → Bool
has_byte part = nat_lt 0 (length part)

-- the words of a line: the parts between its blanks, but for those without a byte
unfoldable pub words_of : List ℕ → List (List ℕ)
words_of line = filter has_byte (slice_split is_blank_byte line)

-- the words that are still to come
unfoldable pub words_left : Words → List (List ℕ)
words_left words = words_of words.rest.now

-- words with a space before each
abbrev pub spaced : List (List ℕ) → List ℕ
spaced words = flat_map (λ word. 32 ∷ word) words
