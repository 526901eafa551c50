-- The lines of a text (this project's own).
use Rattle.std.specs.Prelude.{◌≡◌, ℕ, ◌<◌, ◌||◌, Bool, not, ◌==◌, if◌then◌else◌, List, [], ◌∷◌, ◌++◌, length}
use Rattle.std.specs.List.{enumerate_from, filter, list_all, onto_first, slice_index}
use Rattle.lab_text.specs.Words.{is_blank_byte}
use Rattle.lab_text.specs.declared.lines.Lines.{Lines}

-- the lines of a text: a line ends at a newline, and a last line without one is a line
unfoldable pub lines_of : List ℕ → List (List ℕ)
lines_of [] = []
lines_of (byte ∷ bytes) =
    if byte == 10 then [] ∷ lines_of bytes else onto_first byte (lines_of bytes)

-- the lines that are still to come
unfoldable pub lines_left : Lines → List (List ℕ)
lines_left lines = lines_of lines.rest.now

-- the line is a comment: its first byte is `#`
abbrev pub is_comment : List ℕ → Bool
is_comment line = slice_index line 0 == 35

-- the line has only spaces and tabs
abbrev pub is_blank : List ℕ → Bool
is_blank line = list_all is_blank_byte line

-- the line is skipped: it is a comment or blank
abbrev pub is_skipped : List ℕ → Bool
is_skipped line = is_comment line || is_blank line

-- the lines that are neither comments nor blank, each with its number; the first of all has the
-- number n
abbrev pub kept_from : ℕ → List (List ℕ) → List (ℕ × List ℕ)
kept_from n lines = filter (λ line. not (is_skipped line.1)) (enumerate_from n lines)

-- the text is its first line, whose bytes are the chunk with its newline if it has one, and a rest
pub record CutsLine (text line rest : List ℕ) : Type 0 where
  pub chunk : List ℕ
  pub joined : text ≡ chunk ++ rest
  pub alone : lines_of chunk ≡ line ∷ []
  pub ended : 0 < length rest → (more : List ℕ) → lines_of (chunk ++ more) ≡ line ∷ lines_of more
