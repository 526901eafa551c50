-- A device over another: what the upper one holds is the upper one's, wherever it goes.
use Rattle.test_examples.specs.Words.{◌≡◌, false, List, [], ◌∷◌, ◌++◌, refl, Ram, Dm, Groups}
use Rattle.test_examples.specs.Words.{delay_target, Write, Event, Map, Release, Finish, Control}
use Rattle.test_examples.specs.Words.{Clock, Micro, Begin, Drained, Swap, Status, Scenario, to}
use Rattle.test_examples.specs.Words.{delayed, one_row, step, operate, stacked, controls}
use Rattle.test_examples.specs.Words.{first_lines, through, leads, reported, lines, digits}
use Rattle.test_examples.specs.Words.{runs_list, runs_text}

-- `0 4 delay /dev/ram0 0 0`, `0 4 delay /dev/dm-0 0 1000` over it, a write to the upper device,
-- and this script after the replay
abbrev scenario : List Micro → Scenario Groups
scenario script = stacked 4 (one_row 4 (delayed (to (Ram 0) 0) 0))
    (one_row 4 (delayed (to (Dm 0) 0) 1000)) script (operate Write 0 1 ∷ [])

-- the upper device is suspended and runs again
abbrev upper : Scenario Groups
upper = scenario (step 5 (Status 0) ∷ step 6 (Status 1) ∷ step 7 (Begin 1) ∷ step 7 (Drained 1)
    ∷ step 8 (Swap 1) ∷ [])

-- the lower device is suspended and runs again
abbrev lower : Scenario Groups
lower = scenario (step 5 (Begin 0) ∷ step 5 (Drained 0) ∷ step 6 (Swap 0) ∷ [])

-- the write is held by the upper device
abbrev held : List Event
held = controls 3 ++ first_lines 1 ++ Map 1 ∷ []

-- the write goes through the lower device and is answered on both ways back
abbrev down_and_up : List Event
down_and_up = Release 2 ∷ through 2 ++ Finish 1 ∷ []

-- the upper device drains, so the write goes on at once
upper_report : reported delay_target upper (held ++ controls 3 ++ down_and_up ++ controls 2)
    ≡ lines ("accepted budget=17" ∷ "script 5 0 4 delay 0 0 0" ∷ "script 6 0 4 delay 0 1 0"
    ∷ "log a" ∷ "4 write ok" ∷ "done steps=17 clock=0 now=0" ∷ [])
unfolding runs_list runs_text digits
upper_report = refl

-- the lower device is suspended and runs again while the write is held, which waits for its moment
lower_report : reported delay_target lower (held ++ controls 3 ++ Clock ∷ down_and_up) ≡ lines
    ("accepted budget=15" ∷ "log a" ∷ "4 write ok" ∷ "done steps=15 clock=1 now=1000000" ∷ [])
unfolding runs_list runs_text digits
lower_report = refl

-- the write doesn't go on because a device that doesn't hold it drains
not_by_the_lower : leads delay_target lower (held ++ Control ∷ Release 2 ∷ []) ≡ false
not_by_the_lower = refl

-- the upper device isn't suspended while its write is in flight at it, though all that is left of
-- it is at the lower one
not_while_below : leads delay_target upper
    (held ++ controls 3 ++ Release 2 ∷ Map 2 ∷ Control ∷ []) ≡ false
not_while_below = refl
