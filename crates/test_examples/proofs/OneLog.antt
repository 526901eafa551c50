-- One log on a linear device over a disk of 8 sectors: a write and a read of one sector, and a
-- trim.
use Rattle.test_examples.specs.Words.{◌≡◌, false, List, [], ◌∷◌, ◌++◌, refl, Ram, Dm, Ref, linear}
use Rattle.test_examples.specs.Words.{Read, Write, Trim, Entry, Close, Event, Line, Finish, Control}
use Rattle.test_examples.specs.Words.{Clock, Scenario, to, one_row, operate, log_on, replayed}
use Rattle.test_examples.specs.Words.{entered, mapped, through, leads, reported, lines, digits}
use Rattle.test_examples.specs.Words.{runs_list, runs_text}

-- `0 8 linear /dev/ram0 0`, and a log on it
abbrev device : List Entry → Scenario Ref
device entries = replayed 8 (one_row 8 (to (Ram 0) 0)) (log_on (Dm 0) entries ∷ [])

-- a write and a read of the first sector
abbrev scenario : Scenario Ref
scenario = device (operate Write 0 1 ∷ operate Read 0 1 ∷ Close ∷ [])

-- the write, then the read, and the close
abbrev history : List Event
history = entered ++ through 1 ++ Line 1 ∷ through 3 ++ Line 1 ∷ []

-- 5 lines, 3 events for each operation, 2 steps of the script; the read gives 512 bytes of
-- 16 * 1 + 4
report_is : reported linear scenario history ≡ lines ("accepted budget=13" ∷ "log a"
    ∷ "4 write ok" ∷ "5 read 512x14" ∷ "done steps=13 clock=0 now=0" ∷ [])
unfolding runs_list runs_text digits
report_is = refl

-- a bio in flight isn't answered before its child is
not_before_its_child : leads linear scenario (mapped ++ Finish 1 ∷ []) ≡ false
not_before_its_child = refl

-- a log takes no further line while its operation is under way
not_while_busy : leads linear scenario (entered ++ Line 1 ∷ []) ≡ false
not_while_busy = refl

-- no log takes a line before it has started
not_before_the_replay : leads linear scenario (Control ∷ Line 1 ∷ []) ≡ false
not_before_the_replay = refl

-- the clock doesn't run where no moment lies ahead
no_moment_ahead : leads linear scenario (Control ∷ Control ∷ Clock ∷ []) ≡ false
no_moment_ahead = refl

-- two sectors are written, and the first of them is trimmed: it becomes zero, and the second keeps
-- its byte
trim_report : reported linear
    (device (operate Write 0 2 ∷ operate Trim 0 1 ∷ operate Read 0 2 ∷ []))
    (entered ++ through 1 ++ Line 1 ∷ through 3 ++ Line 1 ∷ through 5)
    ≡ lines ("accepted budget=16" ∷ "log a" ∷ "4 write ok" ∷ "5 trim ok"
    ∷ "6 read 512x00 512x14" ∷ "done steps=16 clock=0 now=0" ∷ [])
unfolding runs_list runs_text digits
trim_report = refl
