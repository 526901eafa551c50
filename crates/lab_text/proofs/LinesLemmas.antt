-- The lines of a text, taken off one by one. Names: lines_of, and the form of the text.
use Rattle.std.proofs.Common.{rules, ◌≡◌, ℕ, ◌+◌, ◌<◌, ◌≤◌, ◌-◌, Bool, true, false, List, [], ◌∷◌}
use Rattle.std.proofs.Common.{◌++◌, length, take, drop, refl, ap, ◌∙◌, arith, Some, None, eqb}
use Rattle.std.proofs.Common.{get_or, get_or-take, length-take, append_assoc, append-nil}
use Rattle.std.specs.Prelude.{position, All}
use Rattle.std.specs.List.{onto_first, position_or_len}
use Rattle.std.proofs.lemmas.List.{drop_more, take_rest, take-append-drop}
use Rattle.std.proofs.lemmas.List.Elements.{All-head, All-tail, All-from_get_or}
use Rattle.std.proofs.lemmas.List.Quantifiers.{position-Some}
use Rattle.std.proofs.lemmas.List.Sums.{fails_before_first}
use Rattle.lab_text.specs.Lines.{lines_of, CutsLine}

-- where no byte passes the test, the place of the first one is past the end
pub none-found : (test : ℕ → Bool) (bytes : List ℕ) → position test bytes ≡ None
    → length bytes ≤ position_or_len test bytes
none-found test bytes none = search rules

-- the byte is a newline
abbrev pub is_newline : ℕ → Bool
is_newline byte = eqb byte 10

-- the byte is none
abbrev IsInner : ℕ → Type 0
IsInner byte = is_newline byte ≡ false

-- a text of no byte has no line
pub lines_of-nil : lines_of [] ≡ []
unfolding lines_of
lines_of-nil = refl

-- a newline at the front ends a line without a byte
lines_of-newline : (byte : ℕ) (bytes : List ℕ) → is_newline byte ≡ true
    → lines_of (byte ∷ bytes) ≡ [] ∷ lines_of bytes
unfolding lines_of
lines_of-newline byte bytes e = rw e

-- another byte at the front belongs to the first line
lines_of-byte : (byte : ℕ) (bytes : List ℕ) → is_newline byte ≡ false
    → lines_of (byte ∷ bytes) ≡ onto_first byte (lines_of bytes)
unfolding lines_of
lines_of-byte byte bytes e = rw e

-- the first line ends at the first newline
pub lines_of-ended : (line rest : List ℕ) (byte : ℕ) → All (λ b. is_newline b ≡ false) line
    → is_newline byte ≡ true → lines_of (line ++ byte ∷ rest) ≡ line ∷ lines_of rest
lines_of-ended [] rest byte none e = lines_of-newline byte rest e
lines_of-ended (b ∷ bs) rest byte none e = rw (lines_of-byte _ _ (All-head IsInner b bs none))
    (rw (lines_of-ended bs rest byte (All-tail IsInner b bs none) e))

-- where no newline stands, what has a byte is one line
lines_of-unended : (line : List ℕ) → 0 < length line → All IsInner line → lines_of line ≡ line ∷ []
unfolding lines_of
lines_of-unended [] filled none = absurd (omega arith)
lines_of-unended (byte ∷ []) filled none = lines_of-byte byte [] (All-head IsInner byte [] none)
lines_of-unended (byte ∷ next ∷ line) filled none =
    let rest = next ∷ line in
    lines_of-byte byte rest (All-head IsInner byte rest none) ∙ ap (onto_first byte)
    (lines_of-unended (next ∷ line) (omega arith) (All-tail IsInner byte rest none))

-- the first line with its newline is cut off
pub CutsLine-at : (text : List ℕ) (end : ℕ) → position is_newline text ≡ Some end
    → CutsLine text (take end text) (take (length text - (end + 1)) (drop (end + 1) text))
CutsLine-at text end found =
    let known = position-Some is_newline text end 0 found in
    let line = take end text in
    let newline = get_or text end 0 in
    let inner = All-from_get_or IsInner line 0 (λ i within.
    let before : i < end = omega (arith, length-take end text) in
    rw (get_or-take end text i 0 before) (known.2 i before)) in
    rw take_rest (record {
      chunk = line ++ newline ∷ [];
      joined = rw (append_assoc, ← drop_more text end 0 known.0, take-append-drop);
      alone = rw lines_of-nil at (lines_of-ended line [] newline inner known.1);
      ended = λ _ more. rw append_assoc (lines_of-ended line more newline inner known.1);
    })

-- a text without a newline is its first line
pub CutsLine-whole : (text : List ℕ) → 0 < length text → position is_newline text ≡ None
    → CutsLine text text []
CutsLine-whole text filled none =
    let past = none-found is_newline text none in
    record {
      chunk = text;
      joined = rw append-nil;
      alone = lines_of-unended text filled
          (λ k e m. fails_before_first is_newline text k e (omega arith));
      ended = λ h more. absurd (omega arith);
    }

-- the lines of a text are the line that is cut off and those of the rest
pub CutsLine-first : {text line rest : List ℕ} → CutsLine text line rest → lines_of text
    ≡ line ∷ lines_of rest
CutsLine-first {rest = []} cut = rw (cut.joined, append-nil, lines_of-nil) cut.alone
CutsLine-first {rest = byte ∷ rest} cut = rw cut.joined (cut.ended (omega arith) (byte ∷ rest))

-- a text has at most as many lines as bytes
pub length-lines_of : (text : List ℕ) → length (lines_of text) ≤ length text
unfolding lines_of
length-lines_of [] = search rules
length-lines_of (byte ∷ bytes) = search (rules, length-lines_of bytes)
