-- A text whose bytes may all stand in lines has no line with another byte.
use Rattle.std.proofs.Common.{rules, ◌≡◌, ℕ, ◌+◌, Bool, true, eqb, List, [], ◌∷◌, refl, inl, inr}
use Rattle.std.specs.List.{list_all}
use Rattle.std.proofs.lemmas.Bool.{and_parts, cases_Bool}
use Rattle.lab_text.specs.Lines.{lines_of}
use Rattle.lab_text.specs.Bundle.{Line, is_body_byte, is_text_byte}
use Rattle.lab_text.specs.Reading.{body_faults}

-- each line has only bytes that may stand in a text
abbrev are_text : List Line → Bool
are_text lines = list_all (λ line. list_all is_text_byte line) lines

-- so are the lines of a text with no other byte than those and newlines
pub lines_of-text : (text : List ℕ) → list_all is_body_byte text ≡ true
    → are_text (lines_of text) ≡ true
unfolding lines_of
lines_of-text [] all = refl
lines_of-text (byte ∷ bytes) all =
    let parts = and_parts (is_body_byte byte) (list_all is_body_byte bytes) all in
    elim (cases_Bool (eqb byte 10)) [
      | inl newline ↦ rw newline (lines_of-text bytes parts.1)
      | inr inner ↦
          let may = rw inner at parts.0 in
          rw inner (search (rules, may, lines_of-text bytes parts.1))
    ]

-- lines of a part that are texts have no fault
pub body_faults-text : (number : ℕ) (lines : List Line) → are_text lines ≡ true
    → body_faults true number lines ≡ []
body_faults-text number [] all = refl
body_faults-text number (line ∷ lines) all = search (rules, body_faults-text (number + 1) lines)
