-- Where a line stands, and that there is none. Names: what is shown of the place. A line as it is
-- shown, byte by byte. Names: what is shown, and of how much.
use Rattle.std.proofs.Common.{rules, ℕ, ◌-◌, ◌≤◌, List, length, Option, arith, ◌≡◌, ◌+◌, ◌<◌, false}
use Rattle.std.proofs.Common.{ltb, [], ◌∷◌, ◌++◌, take, get_or, sym, ap, ◌∙◌, append_assoc}
use Rattle.std.proofs.Common.{append-nil}
use Rattle.std.specs.Option.{IfNone, IfSome}
use Rattle.std.proofs.lemmas.Option.{slice_get_within}
use Rattle.lab_text.specs.Lines.{lines_of}
use Rattle.lab_text.proofs.LinesLemmas.{length-lines_of}
use Rattle.lab_text.specs.Bundle.{Line}
use Rattle.lab_advice.specs.declared.lines.Part.{Part}
use Rattle.lab_advice.specs.declared.place.Place.{Place}
use Rattle.lab_advice.specs.declared.trouble.Trouble.{Trouble}
use Rattle.lab_advice.specs.Places.{IsLineOfPart, ShowsLine, Shows}
use Rattle.std.specs.Prelude.{codes}
use Rattle.std.proofs.lemmas.Bool.Decides.{nat_tests}
use Rattle.std.proofs.lemmas.List.{take_more}
use Rattle.std.proofs.lemmas.Grind.{common_steps}
use Rattle.lab_advice.specs.Shown.{byte_shown, bytes_shown, line_shown, place_text, told_text}

-- a line's number is at most the number of the bytes
pub NamesLine-within : (bytes : List ℕ) (part : Part) (within number : ℕ) (line : Line)
    → IsLineOfPart bytes part within number line → number ≤ length bytes
NamesLine-within bytes part within number line names =
    omega (
      arith,
      slice_get_within (lines_of bytes) (number - 1) line names.shown,
      length-lines_of
          bytes,
    )

-- where no place is found, none is shown of the trouble
abbrev pub NoneShows : Option Place → List ℕ → Trouble → Type 0
NoneShows found bytes trouble = IfNone found ((place : Place) → ¬ Shows bytes trouble place)

-- where no line of the part is told, none is told of a trouble that is of such a line
pub IfNone-Shows : (r : Option Place) (bytes : List ℕ) (trouble : Trouble) (part : Part)
    (within : ℕ) → ((place : Place) → Shows bytes trouble place → ShowsLine bytes part within place)
    → IfNone r ((place : Place) → ¬ ShowsLine bytes part within place) → NoneShows r bytes trouble
IfNone-Shows r bytes trouble part within shows none = search rules

-- the bytes of two lists are shown one behind the other
bytes_shown-append : (front back : List ℕ)
    → bytes_shown (front ++ back) ≡ bytes_shown front ++ bytes_shown back
unfolding bytes_shown
bytes_shown-append [] back = search rules
bytes_shown-append (byte ∷ front) back = search (rules, bytes_shown-append front back)

-- one byte is shown alone
bytes_shown-one : (byte : ℕ) → bytes_shown (byte ∷ []) ≡ byte_shown byte
unfolding bytes_shown
bytes_shown-one byte = append-nil (byte_shown byte)

-- of no byte nothing is shown
pub bytes_shown-none : (text : List ℕ) → text ≡ text ++ bytes_shown []
unfolding bytes_shown
bytes_shown-none text = sym (append-nil text)

-- one byte more is shown behind those so far
pub bytes_shown-more : (text bytes : List ℕ) (i : ℕ) → i < length bytes
    → (text ++ bytes_shown (take i bytes)) ++ byte_shown (get_or bytes i 0)
    ≡ text ++ bytes_shown (take (i + 1) bytes)
bytes_shown-more text bytes i within =
    append_assoc text (bytes_shown (take i bytes)) (byte_shown (get_or bytes i 0))
    ∙ ap (λ shown. text ++ shown)
    (ap (λ shown. bytes_shown (take i bytes) ++ shown) (sym (bytes_shown-one (get_or bytes i 0)))
    ∙ sym (bytes_shown-append (take i bytes) (get_or bytes i 0 ∷ []))
    ∙ ap bytes_shown (sym (take_more bytes i 0 within)))

-- a list that is no longer is taken whole
take_all : (line : Line) (n : ℕ) → length line ≤ n → take n line ≡ line
take_all line n short = grind (arith, common_steps)

-- a line of at most 200 bytes is shown whole
pub line_shown_short : (line : Line) → length line ≤ 200 → line_shown line ≡ bytes_shown line
unfolding line_shown
line_shown_short line short = let test : ltb 200 (length line) ≡ false = grind (arith, nat_tests) in
    search (rules, take_all line 200 short)

-- of a longer one the first 200 bytes are shown
pub line_shown_long : (line : Line) → 200 < length line
    → line_shown line ≡ bytes_shown (take 200 line) ++ codes ".."
unfolding line_shown
line_shown_long line long = search rules

-- three texts appended one behind the other
pub appended-three : (old a b c one two three : List ℕ) → one ≡ old ++ a → two ≡ one ++ b
    → three ≡ two ++ c → three ≡ old ++ ((a ++ b) ++ c)
appended-three old a b c one two three first second third = search (rules, append_assoc)

-- what is found is told, and it is the place of the trouble, if the trouble has one
pub told_text-place : (found : Option Place) (bytes : List ℕ) (trouble : Trouble)
    → IfSome found (λ place. Shows bytes trouble place) → NoneShows found bytes trouble
    → (place : Place) → Shows bytes trouble place → told_text found ≡ place_text place
told_text-place found bytes trouble shows none place shown = search rules
