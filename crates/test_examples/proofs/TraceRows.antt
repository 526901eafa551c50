-- The columns that a trace tells of an event, without what it did, and what it did.
use Prim.Native.String.{String}
use Rattle.std.specs.Prelude.{◌++◌, codes}
use Rattle.std.specs.List.{flat_map}
use Rattle.test_examples.specs.Moody.{Break}
use Rattle.test_examples.specs.Tracing.{columns_of, did}
use Rattle.test_examples.specs.Words.{◌≡◌, ℕ, List, [], ◌∷◌, Option, Some, refl, Ram, Dm, Write}
use Rattle.test_examples.specs.Words.{Event, Line, Map, Serve, Finish, Control, Scenario, Moody}
use Rattle.test_examples.specs.Words.{Mood, moody, as_told, one_row, operate, pause, stacked}
use Rattle.test_examples.specs.Words.{controls}
unfoldable use Rattle.std.specs.Fmt.{digits}

-- columns with a tab between two
abbrev columns : List String → Option (List ℕ)
columns [] = Some []
columns (first ∷ others) = Some (codes first ++ flat_map (λ column. 9 ∷ codes column) others)

-- device 1 over device 0, whose line does this with its piece: a write of sector 3, which is sector 3
-- of each device below, and then a wait
abbrev scenario : List Mood → Scenario Moody
scenario moods = stacked 4 (one_row 4 (moody (Ram 0) 0 moods)) (one_row 4 (moody (Dm 0) 0 [])) []
    (operate Write 3 1 ∷ pause 500 ∷ [])

-- the log's first two lines
abbrev opened : List Event
opened = controls 3 ++ Line 1 ∷ Line 1 ∷ []

-- its write goes to the disk
abbrev sent : List Event
sent = opened ++ Line 1 ∷ Map 1 ∷ Map 2 ∷ []

-- the line of the write makes the first bio
write_line : columns_of as_told (scenario []) opened (Line 1)
    ≡ columns ("6" ∷ "0" ∷ "line 1" ∷ "1" ∷ "4" ∷ "1" ∷ "-" ∷ "write" ∷ "dm1" ∷ "3+1" ∷ [])
unfolding digits
write_line = refl

-- the disk serves the piece of the piece
serve : columns_of as_told (scenario []) sent (Serve 3)
    ≡ columns ("9" ∷ "0" ∷ "serve 3" ∷ "1" ∷ "4" ∷ "3" ∷ "2" ∷ "write" ∷ "ram0" ∷ "3+1" ∷ [])
unfolding digits
serve = refl

-- the script creates the second device
create : columns_of as_told (scenario []) (controls 1) Control
    ≡ columns ("2" ∷ "0" ∷ "control" ∷ "-" ∷ "3" ∷ "-" ∷ "-" ∷ "-" ∷ "dm1" ∷ "-" ∷ [])
unfolding digits
create = refl

-- what is told that an event did behind the map of its piece's piece, whose line does this with it
abbrev did_behind : List Mood → List Event → Event → Option (List ℕ)
did_behind moods events event = did as_told (scenario moods) (sent ++ events) event

-- the disk serves a bio
served : did_behind [] [] (Serve 3) ≡ Some (codes "served")
served = refl

-- the bio above it is answered
well : did_behind [] (Serve 3 ∷ []) (Finish 2) ≡ Some (codes "ok")
well = refl

-- it is answered with a failure
badly : did_behind (Break ∷ []) [] (Finish 2) ≡ Some (codes "EIO")
badly = refl

-- behind the write the log waits
wait : did_behind (Break ∷ []) (Finish 2 ∷ Finish 1 ∷ []) (Line 1) ≡ Some (codes "wait 500")
unfolding digits
wait = refl
