-- Two logs at once: the operation of one holds up neither the lines nor the answers of the other.
use Rattle.test_examples.specs.Words.{◌≡◌, List, [], ◌∷◌, ◌++◌, refl, Ram, Dm, Ref, linear, Read}
use Rattle.test_examples.specs.Words.{Write, Event, Line, Map, Serve, Finish, Control, Scenario, to}
use Rattle.test_examples.specs.Words.{one_row, operate, log_on, replayed, through, reported, lines}
use Rattle.test_examples.specs.Words.{digits, runs_list, runs_text}

-- `0 4 linear /dev/ram0 0`, and two logs that each write a sector of it and read both
abbrev scenario : Scenario Ref
scenario = replayed 4 (one_row 4 (to (Ram 0) 0))
    (log_on (Dm 0) (operate Write 0 1 ∷ operate Read 0 2 ∷ [])
    ∷ log_on (Dm 0) (operate Write 1 1 ∷ operate Read 0 2 ∷ []) ∷ [])

-- the second log's write overtakes the first's
abbrev writes : List Event
writes = Control ∷ Control ∷ Line 1 ∷ Line 1 ∷ Line 2 ∷ Line 1 ∷ Line 2 ∷ Line 2 ∷ Map 1 ∷ Map 2
    ∷ Serve 4 ∷ Finish 2 ∷ []

-- it reads before the first's write is done, and the first reads after both
abbrev reads : List Event
reads = Line 2 ∷ Map 5 ∷ Serve 6 ∷ Serve 3 ∷ Finish 5 ∷ Finish 1 ∷ Line 1 ∷ through 7

-- each log has its own answers
report_is : reported linear scenario (writes ++ reads) ≡ lines
    ("accepted budget=22" ∷ "log a" ∷ "4 write ok" ∷ "5 read 512x14 512x24" ∷ "log a"
    ∷ "4 write ok" ∷ "5 read 512x00 512x24" ∷ "done steps=22 clock=0 now=0" ∷ [])
unfolding runs_list runs_text digits
report_is = refl
