-- Words of 64 bits as marks, and how many marks are set (this project's own).
use Rattle.std.specs.Prelude.{ℕ, zero, suc, true, false, ◌/◌, ◌%◌, ◌==◌, List, [], ◌∷◌}
use Rattle.std.specs.List.{flat_map}
use Rattle.lab_index.specs.Numbers.{Marks}

-- so many bits of a word, the lowest first
unfoldable pub bits_of : ℕ → ℕ → Marks
bits_of zero word = []
bits_of (suc n) word = (word % 2 == 1) ∷ bits_of n (word / 2)

-- the 64 bits of a word, the lowest first
abbrev pub marks_of : ℕ → Marks
marks_of word = bits_of 64 word

-- the bits of the words, end to end
abbrev pub row_of : List ℕ → Marks
row_of words = flat_map marks_of words

-- how many marks are set
abbrev pub count_of : Marks → ℕ
count_of [] = 0
count_of (true ∷ marks) = suc (count_of marks)
count_of (false ∷ marks) = count_of marks
