-- Writes and reads through a line that holds for a second: each waits for its moment, or goes on
-- at once as the device drains, and the status counts what is held, line by line.
use Rattle.test_examples.specs.Words.{String, ◌≡◌, ℕ, true, false, List, [], ◌∷◌, ◌++◌, Option, refl}
use Rattle.test_examples.specs.Words.{Ram, Dm, Groups, delay_target, Read, Write, Event, Line, Map}
use Rattle.test_examples.specs.Words.{Serve, Release, Finish, Control, Clock, Begin, Drained, Swap}
use Rattle.test_examples.specs.Words.{Status, Replay, Scenario, Table, to, delayed, row, one_row}
use Rattle.test_examples.specs.Words.{step, create, operate, log_on, scripted, replayed, controls}
use Rattle.test_examples.specs.Words.{mapped, leads, ends, reported, lines, digits, runs_list}
use Rattle.test_examples.specs.Words.{runs_text}

-- `delay /dev/ram0 0 1000`
abbrev slow : Groups
slow = delayed (to (Ram 0) 0) 1000

-- the status is told while the device runs, and while it is suspended; a log writes a sector
abbrev asked : Table Groups → ℕ → Scenario Groups
asked table sector = scripted 8 (table ∷ [])
    (create 2 0 ∷ step 3 Replay ∷ step 4 (Status 0) ∷ step 5 (Begin 0) ∷ step 5 (Drained 0)
    ∷ step 6 (Status 0) ∷ step 7 (Swap 0) ∷ []) (log_on (Dm 0) (operate Write sector 1 ∷ []) ∷ [])

-- `0 8 delay /dev/ram0 0 1000`
abbrev scenario : Scenario Groups
scenario = asked (one_row 8 slow) 0

-- the write is held when its status is told first
abbrev before : List Event
before = mapped ++ Control ∷ []

-- then the device drains, the held write goes on and is answered, and the device is suspended
abbrev history : List Event
history = before ++ Control ∷ Release 2 ∷ Serve 2 ∷ Finish 1 ∷ controls 3

-- all is done in the end
finished : ends delay_target scenario history ≡ true
finished = refl

-- a report with these lines of the status
abbrev told : List String → Option (List ℕ)
told status = lines ("accepted budget=14" ∷ status ++ "log a" ∷ "4 write ok"
    ∷ "done steps=14 clock=0 now=0" ∷ [])

-- 3 log lines, 4 events for the write (one of them its hold), 7 steps of the script; one write is
-- held, and then none
report_is : reported delay_target scenario history
    ≡ told ("script 4 0 8 delay 0 1 0" ∷ "script 6 0 8 delay 0 0 0" ∷ [])
unfolding runs_list runs_text digits
report_is = refl

-- the held write doesn't go on while its device runs and its moment hasn't come
not_before_its_moment : leads delay_target scenario (before ++ Release 2 ∷ []) ≡ false
not_before_its_moment = refl

-- the device isn't suspended while the write is in flight
not_while_in_flight : leads delay_target scenario (before ++ Control ∷ Control ∷ []) ≡ false
not_while_in_flight = refl

-- `0 4 delay /dev/ram0 0 1000`, `4 4 delay /dev/ram0 0 1000`, and a write to sector 4
abbrev by_line : Scenario Groups
by_line = asked (row 0 4 slow ∷ row 4 4 slow ∷ []) 4

-- the write is held for the second line, and isn't counted at the first
by_line_report : reported delay_target by_line history ≡ told ("script 4 0 4 delay 0 0 0"
    ∷ "script 4 4 4 delay 0 1 0" ∷ "script 6 0 4 delay 0 0 0" ∷ "script 6 4 4 delay 0 0 0" ∷ [])
unfolding runs_list runs_text digits
by_line_report = refl

-- a write, and a read of the same sector
abbrev two : Scenario Groups
two = replayed 8 (one_row 8 slow) (log_on (Dm 0) (operate Write 0 1 ∷ operate Read 0 1 ∷ []) ∷ [])

-- the clock comes to the write's moment, and it goes on; the read is held too
abbrev in_turn : List Event
in_turn = mapped ++ Clock ∷ Release 2 ∷ Serve 2 ∷ Finish 1
    ∷ Line 1 ∷ Map 3 ∷ Clock ∷ Release 4 ∷ Serve 4 ∷ Finish 3 ∷ []

-- the clock has gone on twice, a second each
two_report : reported delay_target two in_turn ≡ lines ("accepted budget=14" ∷ "log a"
    ∷ "4 write ok" ∷ "5 read 512x14" ∷ "done steps=14 clock=2 now=2000000" ∷ [])
unfolding runs_list runs_text digits
two_report = refl

-- it isn't served before it goes on
not_while_held : leads delay_target two (mapped ++ Clock ∷ Serve 2 ∷ []) ≡ false
not_while_held = refl

-- before the clock goes on it isn't due; it isn't answered while its piece is held; and no later
-- moment stands, so the clock doesn't go on again
not_otherwise : (leads delay_target two (mapped ++ Release 2 ∷ []) ≡ false)
    × (leads delay_target two (mapped ++ Clock ∷ Finish 1 ∷ []) ≡ false)
    × (leads delay_target two (mapped ++ Clock ∷ Clock ∷ []) ≡ false)
not_otherwise = (refl, refl, refl)
