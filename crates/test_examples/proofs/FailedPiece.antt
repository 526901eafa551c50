-- A bio with a failed piece fails, but not before all of its pieces are answered; what another
-- piece wrote stays, and a failure below fails all that is above it.
use Rattle.test_examples.specs.Words.{◌≡◌, false, List, [], ◌∷◌, ◌++◌, refl, Ram, Dm, Read, Write}
use Rattle.test_examples.specs.Words.{Sync, Event, Line, Map, Serve, Finish, Scenario, Table, to}
use Rattle.test_examples.specs.Words.{row, operate, log_on, replayed, stacked, controls, first_lines}
use Rattle.test_examples.specs.Words.{mapped, through, leads, reported, lines, Simple, Linear, Zero}
use Rattle.test_examples.specs.Words.{Error, simple, digits, runs_list, runs_text}

-- `0 2 linear /dev/ram0 4`, `2 2 error`; a write of the sectors 1 and 2, then the disk is read
abbrev scenario : Scenario Simple
scenario = replayed 8 (row 0 2 (Linear (to (Ram 0) 4)) ∷ row 2 2 Error ∷ [])
    (log_on (Dm 0) (operate Write 1 2 ∷ []) ∷ log_on (Ram 0) (operate Read 4 3 ∷ []) ∷ [])

-- the first piece is served and the write answered, and then the disk is read
abbrev history : List Event
history = mapped ++ Serve 2 ∷ Finish 1 ∷ first_lines 2 ++ Serve 3 ∷ []

-- the write fails, and the disk has the sector of its first piece
report_is : reported simple scenario history ≡ lines ("accepted budget=12" ∷ "log a" ∷ "4 write EIO"
    ∷ "log a" ∷ "4 read 512x00 512x14 512x00" ∷ "done steps=12 clock=0 now=0" ∷ [])
unfolding runs_list runs_text digits
report_is = refl

-- the write has failed already, but it isn't answered before its other piece is
not_before_its_piece : leads simple scenario (mapped ++ Finish 1 ∷ []) ≡ false
not_before_its_piece = refl

-- `0 2 zero`, `2 2 error`, and a log that reads the first line and then across both
abbrev zero_and_error : Scenario Simple
zero_and_error = replayed 8 (row 0 2 Zero ∷ row 2 2 Error ∷ [])
    (log_on (Dm 0) (operate Read 0 2 ∷ operate Read 1 2 ∷ []) ∷ [])

-- no piece goes on, so both reads are answered at once
abbrev at_once : List Event
at_once = mapped ++ Finish 1 ∷ Line 1 ∷ Map 2 ∷ Finish 2 ∷ []

-- the first gives zeroes, the second fails
reads_report : reported simple zero_and_error at_once ≡ lines ("accepted budget=10" ∷ "log a"
    ∷ "4 read 1024x00" ∷ "5 read EIO" ∷ "done steps=10 clock=0 now=0" ∷ [])
unfolding runs_list runs_text digits
reads_report = refl

-- `0 4 linear /dev/ram0 0`, `4 2 zero`, `6 2 error`, and a log with a sync: each line has a piece
-- of the flush, and that of the linear line is the only one that goes on
abbrev flushed : Scenario Simple
flushed = replayed 8 (row 0 4 (Linear (to (Ram 0) 0)) ∷ row 4 2 Zero ∷ row 6 2 Error ∷ [])
    (log_on (Dm 0) (operate Sync 0 0 ∷ []) ∷ [])

-- the sync fails, since the error line fails its piece
flush_report : reported simple flushed (mapped ++ Serve 2 ∷ Finish 1 ∷ []) ≡ lines
    ("accepted budget=8" ∷ "log a" ∷ "4 sync EIO" ∷ "done steps=8 clock=0 now=0" ∷ [])
unfolding digits
flush_report = refl

-- the flush has failed already, but it isn't answered before its piece is
flush_not_before_its_piece : leads simple flushed (mapped ++ Finish 1 ∷ []) ≡ false
flush_not_before_its_piece = refl

-- `0 2 linear /dev/ram0 0`, `2 2 error`
abbrev low : Table Simple
low = row 0 2 (Linear (to (Ram 0) 0)) ∷ row 2 2 Error ∷ []

-- `0 4 linear /dev/dm-0 0` over it in two lines
abbrev top : Table Simple
top = row 0 2 (Linear (to (Dm 0) 0)) ∷ row 2 2 (Linear (to (Dm 0) 2)) ∷ []

-- a read across both lines of the upper device, and one of its first line
abbrev over_it : Scenario Simple
over_it = stacked 2 low top [] (operate Read 1 2 ∷ operate Read 0 1 ∷ [])

-- the read's second piece fails at the lower device, and then its first one succeeds
abbrev failed : List Event
failed = controls 3 ++ first_lines 1 ++ Map 1 ∷ Map 3 ∷ Finish 3 ∷ Map 2 ∷ Serve 4 ∷ Finish 2
    ∷ Finish 1 ∷ []

-- and the second read goes down through its line
abbrev both : List Event
both = failed ++ Line 1 ∷ Map 5 ∷ through 6 ++ Finish 5 ∷ []

-- the first read fails, which the piece that succeeds later doesn't mend, and the second succeeds
below_report : reported simple over_it both ≡ lines ("accepted budget=19" ∷ "log a" ∷ "4 read EIO"
    ∷ "5 read 512x00" ∷ "done steps=19 clock=0 now=0" ∷ [])
unfolding runs_list runs_text digits
below_report = refl
