-- What a trace tells of a map: the bios that are made for the pieces, and what the bio lacks.
use Prim.Native.String.{String}
use Rattle.std.specs.Prelude.{codes}
use Rattle.lab_target.specs.declared.verdict.Mark.{Mark}
use Rattle.lab_trace.specs.Made.{marks_text}
use Rattle.lab_trace.specs.Written.{changes_text}
use Rattle.test_examples.specs.Moody.{Break}
use Rattle.test_examples.specs.Tracing.{did}
use Rattle.test_examples.specs.Words.{◌≡◌, ℕ, List, [], ◌∷◌, Option, Some, refl, Ram, Dm, Read}
use Rattle.test_examples.specs.Words.{Write, Trim, Action, Map, Scenario, Moody, Drop, Spoil}
use Rattle.test_examples.specs.Words.{moody, nowhere, as_told, delay_target, delayed, to, row}
use Rattle.test_examples.specs.Words.{one_row, operate, log_on, replayed, entered}
unfoldable use Rattle.std.specs.Fmt.{digits}

-- a text, where there is one
abbrev text : String → Option (List ℕ)
text it = Some (codes it)

-- an operation on the sectors 1, 2 and 3 of two lines of two sectors each
abbrev scenario : Moody → Moody → Action → Scenario Moody
scenario first second action = replayed 4 (row 0 2 first ∷ row 2 2 second ∷ [])
    (log_on (Dm 0) (operate action 1 3 ∷ []) ∷ [])

-- what is told of the map, where the first line keeps its piece, by what the second one does
abbrev second_does : Moody → Action → Option (List ℕ)
second_does second action =
    did as_told (scenario (moody (Ram 0) 0 []) second action) entered (Map 1)

-- a bio for each of two pieces
two : second_does (moody (Ram 0) 2 []) Write ≡ text "2,3"
unfolding digits
two = refl

-- the second piece of a write goes nowhere
dropped : second_does (moody (Ram 0) 2 (Drop ∷ [])) Write ≡ text "2 dropped"
unfolding digits
dropped = refl

-- so does a trim's, where the line has no device
dropped_trim : second_does nowhere Trim ≡ text "2 dropped"
unfolding digits
dropped_trim = refl

-- a read's is answered as zeroes
zeroes : second_does nowhere Read ≡ text "2 zeroes"
unfolding digits
zeroes = refl

-- a piece fails
failed : second_does (moody (Ram 0) 2 (Break ∷ [])) Write ≡ text "2 failed"
unfolding digits
failed = refl

-- a byte of a write is changed on its way, counted from the first of its bio
written : second_does (moody (Ram 0) 2 (Spoil 7 ∷ [])) Write ≡ text "2,3!0=7"
unfolding digits
written = refl

-- a byte of the answer to a read is to be changed
marked : second_does (moody (Ram 0) 2 (Spoil 7 ∷ [])) Read ≡ text "2,3!0=7"
unfolding digits
marked = refl

-- no bio is made
none_made : did as_told (scenario nowhere nowhere Write) entered (Map 1) ≡ text "dropped"
none_made = refl

-- a bio is held until 5 milliseconds have gone
held : did delay_target (replayed 4 (one_row 4 (delayed (to (Ram 0) 0) 5))
    (log_on (Dm 0) (operate Read 0 1 ∷ []) ∷ [])) entered (Map 1) ≡ text "2@5000"
unfolding digits
held = refl

-- a mark
abbrev mark : ℕ → ℕ → Option Mark
mark place value = Some (record { place = place; value = value })

-- two marks at two places, the fixed one first
two_marks : marks_text (record { fixed = mark 6 1; random = mark 5 2 }) ≡ codes "!6=1!5=2"
unfolding digits
two_marks = refl

-- of two at one place the random one alone is told
one_place : marks_text (record { fixed = mark 5 1; random = mark 5 2 }) ≡ codes "!5=2"
unfolding digits
one_place = refl

-- a changed byte of the second sector is counted from the first one
second_sector : changes_text 0 ((20 ∷ 20 ∷ []) ∷ (20 ∷ 20 ∷ []) ∷ [])
    ((20 ∷ 20 ∷ []) ∷ (20 ∷ 7 ∷ []) ∷ []) ≡ codes "!513=7"
unfolding digits
second_sector = refl
