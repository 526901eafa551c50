-- A table of a linear, a zero, an error and a delay line: each operation takes just what it costs,
-- so the run takes just its budget.
use Rattle.test_examples.specs.Words.{◌≡◌, List, [], ◌∷◌, ◌++◌, refl, Ram, Dm, Read, Write, Sync}
use Rattle.test_examples.specs.Words.{Event, Line, Map, Serve, Release, Finish, Clock, budget}
use Rattle.test_examples.specs.Words.{Scenario, Table, to, delayed, row, operate, log_on, replayed}
use Rattle.test_examples.specs.Words.{mapped, through, reported, lines, Simple, Linear, Zero, Error}
use Rattle.test_examples.specs.Words.{Delay, simple, digits, runs_list, runs_text}

-- `0 2 linear /dev/ram0 0`, `2 2 zero`, `4 2 error`, `6 2 delay /dev/ram0 6 5`
abbrev mixed : Table Simple
mixed = row 0 2 (Linear (to (Ram 0) 0)) ∷ row 2 2 Zero ∷ row 4 2 Error
    ∷ row 6 2 (Delay (delayed (to (Ram 0) 6) 5)) ∷ []

-- a log that writes to all lines, reads across the first two, and syncs
abbrev scenario : Scenario Simple
scenario = replayed 8 mixed
    (log_on (Dm 0) (operate Write 0 8 ∷ operate Read 1 2 ∷ operate Sync 0 0 ∷ []) ∷ [])

-- 2 steps and 5 lines; the write and the sync cost 5 each: their Map and Finish, 1 at the disk
-- behind the linear line, a hold and 1 at the disk behind the delay line, and nothing at the zero
-- line and the error line; the read costs 3: its Map and Finish, and 1 at the disk behind the
-- linear line
budget_is : budget simple scenario ≡ 20
budget_is = refl

-- the write is mapped, its first piece served, its last one held for 5 milliseconds and served;
-- then the read, and the sync as the write
abbrev history : List Event
history = mapped ++ Serve 2 ∷ Clock ∷ Release 3 ∷ Serve 3 ∷ Finish 1 ∷ Line 1 ∷ through 4
    ++ Line 1 ∷ Map 6 ∷ Serve 7 ∷ Clock ∷ Release 8 ∷ Serve 8 ∷ Finish 6 ∷ []

-- it is a complete run of 20 events, the clock's left out; the write and the sync fail for the error
-- line, and the read finds what the write's first piece put, and zeroes
report_is : reported simple scenario history ≡ lines ("accepted budget=20" ∷ "log a" ∷ "4 write EIO"
    ∷ "5 read 512x14 512x00" ∷ "6 sync EIO" ∷ "done steps=20 clock=2 now=10000" ∷ [])
unfolding runs_list runs_text digits
report_is = refl
