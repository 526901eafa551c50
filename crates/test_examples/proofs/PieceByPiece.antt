-- A bio's pieces are judged in order, each by the line that the one before leaves, and the line
-- stays as the last leaves it.
use Rattle.test_examples.specs.Words.{◌≡◌, ℕ, List, [], ◌∷◌, ◌++◌, refl, Ram, Dm, Read, Write, Trim}
use Rattle.test_examples.specs.Words.{Event, Line, Map, Serve, Finish, Scenario, one_row, operate}
use Rattle.test_examples.specs.Words.{log_on, replayed, first_lines, entered, reported, lines, turns}
use Rattle.test_examples.specs.Words.{digits, runs_list, runs_text}

-- `0 4 turns`: every second sector goes on to disk 0
abbrev scenario : Scenario ℕ
scenario = replayed 4 (one_row 4 0)
    (log_on (Ram 0) (operate Write 0 4 ∷ [])
    ∷ log_on (Dm 0) (operate Read 0 3 ∷ operate Read 0 4 ∷ operate Trim 0 4 ∷ [])
    ∷ log_on (Ram 0) (operate Read 0 4 ∷ []) ∷ [])

-- pieces 1 and 3 of the first read go on, then pieces 2 and 4 of the second, and of the trim the
-- same, since seven pieces were judged before it
abbrev in_turns : List Event
in_turns = first_lines 2 ++ Map 2 ∷ Serve 3 ∷ Serve 4 ∷ Finish 2 ∷ Line 2 ∷ Map 5
    ∷ Serve 6 ∷ Serve 7 ∷ Finish 5 ∷ Line 2 ∷ Map 8 ∷ Serve 9 ∷ Serve 10 ∷ Finish 8 ∷ []

-- the disk is written, and read at the end: the reads give every second sector, and the trim
-- leaves every second one
report_is : reported turns scenario
    (entered ++ Serve 1 ∷ in_turns ++ first_lines 3 ++ Serve 11 ∷ [])
    ≡ lines ("accepted budget=32" ∷ "log a" ∷ "4 write ok" ∷ "log a"
    ∷ "4 read 512x14 512x00 512x14" ∷ "5 read 512x00 512x14 512x00 512x14" ∷ "6 trim ok"
    ∷ "log a" ∷ "4 read 512x14 512x00 512x14 512x00" ∷ "done steps=27 clock=0 now=0" ∷ [])
unfolding runs_list runs_text digits
report_is = refl
