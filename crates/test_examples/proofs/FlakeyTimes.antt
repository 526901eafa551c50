-- A flakey line that is up and down for a second each: its time is counted from the load, and not
-- from the moment when its table becomes live.
use Rattle.test_examples.specs.Words.{◌≡◌, ℕ, List, [], ◌∷◌, ◌++◌, refl, Dm, FlakeyLine, flakey}
use Rattle.test_examples.specs.Words.{no_features, Read, Event, Line, Map, Serve, Finish, Control}
use Rattle.test_examples.specs.Words.{Clock, Load, Status, Sleep, Replay, Scenario, Table, one_row}
use Rattle.test_examples.specs.Words.{step, create, resume, operate, pause, log_on, scripted}
use Rattle.test_examples.specs.Words.{replayed, controls, first_lines, reported, lines, counting}
use Rattle.test_examples.specs.Words.{flaky, digits, runs_list, runs_text}

-- `0 8 flakey /dev/ram0 0 1 1`
abbrev table : Table (FlakeyLine ℕ)
table = one_row 8 (flaky 0 1 1 no_features)

-- a log that waits so many microseconds and reads
abbrev scenario : ℕ → Scenario (FlakeyLine ℕ)
scenario time = replayed 8 table (log_on (Dm 0) (pause time ∷ operate Read 0 1 ∷ []) ∷ [])

-- the log has waited, and its read is cut
abbrev cut : List Event
cut = controls 2 ++ first_lines 1 ++ Clock ∷ Line 1 ∷ Map 1 ∷ []

-- a microsecond before the first second is over
still_up : reported (flakey counting) (scenario 999999) (cut ++ Serve 2 ∷ Finish 1 ∷ []) ≡ lines
    ("accepted budget=9" ∷ "log a" ∷ "5 read 512x00" ∷ "done steps=9 clock=1 now=999999" ∷ [])
unfolding runs_list runs_text digits
still_up = refl

-- in second 1
down : reported (flakey counting) (scenario 1000000) (cut ++ Finish 1 ∷ []) ≡ lines
    ("accepted budget=9" ∷ "log a" ∷ "5 read EIO" ∷ "done steps=8 clock=1 now=1000000" ∷ [])
unfolding runs_list runs_text digits
down = refl

-- in second 2
up_again : reported (flakey counting) (scenario 2000000) (cut ++ Serve 2 ∷ Finish 1 ∷ []) ≡ lines
    ("accepted budget=9" ∷ "log a" ∷ "5 read 512x00" ∷ "done steps=9 clock=1 now=2000000" ∷ [])
unfolding runs_list runs_text digits
up_again = refl

-- a device gets its table after a second and a half, and it becomes live after a second more
abbrev later : Scenario (FlakeyLine ℕ)
later = scripted 8 (table ∷ table ∷ [])
    (create 2 0 ∷ step 3 (Sleep 1500000) ∷ step 4 (Status 0) ∷ step 5 (Load 0 1)
    ∷ step 6 (Sleep 1000000) ∷ step 7 (Status 0) ∷ resume 8 ++ step 9 (Status 0)
    ∷ step 10 (Sleep 500000) ∷ step 11 (Status 0) ∷ step 12 Replay ∷ []) []

-- the status of each moment: the new table is in its second 1 when it becomes live, and the old
-- one was in its second 2
from_the_load : reported (flakey counting) later
    (controls 2 ++ Clock ∷ controls 3 ++ Clock ∷ controls 6 ++ Clock ∷ controls 2)
    ≡ lines ("accepted budget=13" ∷ "script 4 0 8 flakey down" ∷ "script 7 0 8 flakey up"
    ∷ "script 9 0 8 flakey down" ∷ "script 11 0 8 flakey down"
    ∷ "done steps=13 clock=3 now=3000000" ∷ [])
unfolding runs_list runs_text digits
from_the_load = refl

-- a device that is created after a second is in its second 0 then
abbrev created_late : Scenario (FlakeyLine ℕ)
created_late = scripted 8 (table ∷ [])
    (step 2 (Sleep 1000000) ∷ create 3 0 ∷ step 4 (Status 0) ∷ step 5 Replay ∷ []) []

-- the status in that moment
from_the_create : reported (flakey counting) created_late (Control ∷ Clock ∷ controls 3) ≡ lines
    ("accepted budget=4" ∷ "script 4 0 8 flakey up" ∷ "done steps=4 clock=1 now=1000000" ∷ [])
unfolding runs_list runs_text digits
from_the_create = refl
