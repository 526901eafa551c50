-- Lost writes and trims: a line that has a device for them drops some of their sectors.
use Rattle.test_examples.specs.Words.{◌≡◌, List, [], ◌∷◌, ◌++◌, Some, Ram, Dm, Write}
use Rattle.test_examples.specs.Words.{Trim, Action, Event, Map, Serve, Finish, Scenario, Table, row}
use Rattle.test_examples.specs.Words.{one_row, operate, log_on, replayed, stacked, controls}
use Rattle.test_examples.specs.Words.{first_lines, mapped, Moody, Drop, moody, nowhere}
use Rattle.test_examples.proofs.Places.{places}
use Rattle.test_examples.specs.Words.{as_told, noted_for, everything, Lost, sectors, wrong, by, found}

-- a line of two sectors that keeps all, and another of two sectors
abbrev table : Moody → Table Moody
table second = row 0 2 (moody (Ram 0) 0 []) ∷ row 2 2 second ∷ []

-- an operation on the sectors 1, 2 and 3
abbrev scenario : Moody → Action → Scenario Moody
scenario second action = replayed 4 (table second) (log_on (Dm 0) (operate action 1 3 ∷ []) ∷ [])

-- the first line hands its piece on, the second one answers its own
abbrev history : List Event
history = mapped ++ Serve 2 ∷ Finish 1 ∷ []

-- two sectors of a write are dropped: the second line did it
a_write : noted_for as_told (scenario (moody (Ram 0) 2 (Drop ∷ [])) Write) everything history
    ≡ Some (found Lost 1 4 Write (Dm 0) (sectors 1 3) (wrong 2 2) (by 0 2) ∷ [])
a_write = simp places

-- so are those of a trim
a_trim : noted_for as_told (scenario (moody (Ram 0) 2 (Drop ∷ [])) Trim) everything history
    ≡ Some (found Lost 1 4 Trim (Dm 0) (sectors 1 3) (wrong 2 2) (by 0 2) ∷ [])
a_trim = simp places

-- a line without a device loses nothing
nothing_kept : noted_for as_told (scenario nowhere Write) everything history ≡ Some []
nothing_kept = simp places

-- nothing is lost where all is kept
all_kept : noted_for as_told (scenario (moody (Ram 0) 2 []) Write) everything
    (mapped ++ Serve 2 ∷ Serve 3 ∷ Finish 1 ∷ []) ≡ Some []
all_kept = simp places

-- two devices over one another, of which the lower one drops a write: the log has opened the upper one
below : noted_for as_told (stacked 4 (one_row 4 (moody (Ram 0) 0 (Drop ∷ [])))
    (row 0 1 (moody (Dm 0) 3 []) ∷ row 1 1 (moody (Dm 0) 0 []) ∷ []) []
    (operate Write 1 1 ∷ [])) everything
    (controls 3 ++ first_lines 1 ++ Map 1 ∷ Map 2 ∷ Finish 2 ∷ Finish 1 ∷ [])
    ≡ Some (found Lost 1 4 Write (Dm 1) (sectors 1 1) (wrong 1 1) (by 0 1) ∷ [])
below = simp places
