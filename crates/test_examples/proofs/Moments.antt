-- Whose moments come when: a log's wait is counted from its own moment, a sleep from now, and a
-- log's first moment is that of the replay.
use Rattle.test_examples.specs.Words.{◌≡◌, ℕ, false, List, [], ◌∷◌, ◌++◌, None, refl, Ram, Ref}
use Rattle.test_examples.specs.Words.{linear, Event, Line, Control, Clock, Micro, Sleep, Replay}
use Rattle.test_examples.specs.Words.{Wait, Scenario, LogPlan, disk, step, pause, log_of, log_on}
use Rattle.test_examples.specs.Words.{first_lines, leads, reported, lines, digits}

-- a log that waits so many microseconds
abbrev waiting : ℕ → LogPlan
waiting time = log_on (Ram 0) (pause time ∷ [])

-- no mapped device, these logs, and this script
abbrev scenario : List Micro → List LogPlan → Scenario Ref
scenario script logs =
    record { disks = disk 0 2 ∷ []; versions = []; micros = script; logs = logs }

-- two logs that wait 5000 and 1000 microseconds
abbrev two : Scenario Ref
two = scenario (step 2 Replay ∷ []) (waiting 5000 ∷ waiting 1000 ∷ [])

-- the second log waits from its own moment 0 on, though the clock is at 5000
from_its_own_moment : reported linear two (Control ∷ first_lines 1 ++ Clock ∷ first_lines 2)
    ≡ lines ("accepted budget=7" ∷ "log a" ∷ "log a" ∷ "done steps=7 clock=1 now=5000" ∷ [])
unfolding digits
from_its_own_moment = refl

-- both logs come to their waits, and the clock goes on once
abbrev both_wait : List Event
both_wait = Control ∷ first_lines 1 ++ first_lines 2 ++ Clock ∷ []

-- the clock goes to the least moment that lies ahead, though events may come before it goes on
to_the_least : reported linear two (both_wait ++ Clock ∷ [])
    ≡ lines ("accepted budget=7" ∷ "log a" ∷ "log a" ∷ "done steps=7 clock=2 now=5000" ∷ [])
unfolding digits
to_the_least = refl

-- a log whose moment lies ahead hasn't ended
not_before_its_end : reported linear two both_wait ≡ None
not_before_its_end = refl

-- a log that waits 100 and then 99 microseconds
abbrev two_waits : Scenario Ref
two_waits = scenario (step 2 Replay ∷ []) (log_on (Ram 0) (pause 100 ∷ pause 99 ∷ []) ∷ [])

-- the second wait doesn't come while the first one lasts
not_before_its_moment : leads linear two_waits (Control ∷ first_lines 1 ++ Line 1 ∷ []) ≡ false
not_before_its_moment = refl

-- a wait of 100 microseconds is kept, and one of 99 is discarded
short_waits : reported linear two_waits (Control ∷ first_lines 1 ++ Clock ∷ Line 1 ∷ [])
    ≡ lines ("accepted budget=5" ∷ "log a" ∷ "done steps=5 clock=1 now=100" ∷ [])
unfolding digits
short_waits = refl

-- a sleep after the clock is at 5000
abbrev late_sleep : Scenario Ref
late_sleep = scenario (step 2 Replay ∷ step 3 Wait ∷ step 4 (Sleep 1) ∷ []) (waiting 5000 ∷ [])

-- the log's wait passes, and the script comes to its sleep
abbrev asleep : List Event
asleep = Control ∷ first_lines 1 ++ Clock ∷ Control ∷ Control ∷ []

-- the sleep is over at 5001
from_now : reported linear late_sleep (asleep ++ Clock ∷ [])
    ≡ lines ("accepted budget=6" ∷ "log a" ∷ "done steps=6 clock=2 now=5001" ∷ [])
unfolding digits
from_now = refl

-- the script has ended no earlier than its last sleep
not_before_its_sleep : reported linear late_sleep asleep ≡ None
not_before_its_sleep = refl

-- a replay after the clock is at 5000: the log's wait is counted from then
abbrev late_replay : Scenario Ref
late_replay = scenario (step 2 (Sleep 5000) ∷ step 3 Replay ∷ []) (waiting 1000 ∷ [])

-- the script sleeps until the clock goes on
abbrev slept : List Event
slept = Control ∷ Clock ∷ []

-- the wait is over at 6000
from_the_replay : reported linear late_replay (slept ++ Control ∷ first_lines 1 ++ Clock ∷ [])
    ≡ lines ("accepted budget=5" ∷ "log a" ∷ "done steps=5 clock=2 now=6000" ∷ [])
unfolding digits
from_the_replay = refl

-- a log takes no line before the replay
not_before_the_replay : leads linear late_replay (slept ++ Line 1 ∷ []) ≡ false
not_before_the_replay = refl

-- no step comes while the script sleeps
not_before_the_clock : leads linear late_replay (Control ∷ Control ∷ []) ≡ false
not_before_the_clock = refl

-- a log that is never started has not ended, though it has no line
never_started : reported linear (scenario [] (log_of [] ∷ [])) [] ≡ None
never_started = refl
