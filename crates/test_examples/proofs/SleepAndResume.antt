-- A device is suspended, the script sleeps, and the device runs again: a write that enters it
-- waits for that.
use Rattle.lab_model.proofs.Common.{option_map}
use Rattle.lab_model.specs.declared.micro.Mode.{Mode}
use Rattle.lab_model.specs.declared.micro.Mode.TheVariants.{Running, Draining, Suspended}
use Rattle.test_examples.specs.Words.{◌≡◌, false, List, [], ◌∷◌, ◌++◌, Option, Some, None, refl, Ram}
use Rattle.test_examples.specs.Words.{Dm, Ref, linear, Read, Write, Close, Event, Line, Map, Control}
use Rattle.test_examples.specs.Words.{Clock, Begin, Drained, Swap, Sleep, Replay, Wait, Scenario}
use Rattle.test_examples.specs.Words.{State, to, one_row, step, create, operate, log_on, scripted}
use Rattle.test_examples.specs.Words.{controls, entered, mapped, through, reached, leads, reported}
use Rattle.test_examples.specs.Words.{lines, digits, runs_list, runs_text}
use Rattle.std.specs.List.{filter_map}

-- `0 8 linear /dev/ram0 0`; the device is suspended, and resumed a microsecond later
abbrev scenario : Scenario Ref
scenario = scripted 8 (one_row 8 (to (Ram 0) 0) ∷ [])
    (create 2 0 ∷ step 3 Replay ∷ step 4 (Begin 0) ∷ step 4 (Drained 0) ∷ step 5 (Sleep 1)
    ∷ step 6 (Swap 0) ∷ step 7 Wait ∷ [])
    (log_on (Dm 0) (operate Write 0 1 ∷ operate Read 0 1 ∷ Close ∷ []) ∷ [])

-- the device drains, is suspended though the write has entered it, and the script sleeps
abbrev asleep : List Event
asleep = entered ++ controls 3

-- the clock goes on, the device runs, and the log goes on to its end, which the script waits for
abbrev awake : List Event
awake = Clock ∷ Control ∷ through 1 ++ Line 1 ∷ through 3 ++ Line 1 ∷ Control ∷ []

-- the write and the read come after the sleep
report_is : reported linear scenario (asleep ++ awake) ≡ lines ("accepted budget=18" ∷ "log a"
    ∷ "4 write ok" ∷ "5 read 512x14" ∷ "done steps=18 clock=1 now=1" ∷ [])
unfolding runs_list runs_text digits
report_is = refl

-- the modes of the devices that stand after a history
abbrev modes : Option (State Ref) → List Mode
modes None = []
modes (Some s) = filter_map (λ entry. option_map (λ slot. slot.mode) entry) s.devices

-- the device runs, drains, is suspended and runs again
running : modes (reached linear scenario entered) ≡ Running ∷ []
running = refl

-- after Begin
draining : modes (reached linear scenario (entered ++ Control ∷ [])) ≡ Draining ∷ []
draining = refl

-- after Drained, and through the sleep
suspended : modes (reached linear scenario asleep) ≡ Suspended ∷ []
suspended = refl

-- after Swap
resumed : modes (reached linear scenario (asleep ++ Clock ∷ Control ∷ [])) ≡ Running ∷ []
resumed = refl

-- a draining device takes no bio
not_while_draining : leads linear scenario (entered ++ Control ∷ Map 1 ∷ []) ≡ false
not_while_draining = refl

-- a suspended device takes no bio
not_while_suspended : leads linear scenario (entered ++ Control ∷ Control ∷ Map 1 ∷ []) ≡ false
not_while_suspended = refl

-- the device isn't suspended while a bio is in flight at it
not_while_in_flight : leads linear scenario (mapped ++ Control ∷ Control ∷ []) ≡ false
not_while_in_flight = refl

-- the script takes no step while it sleeps
not_while_asleep : leads linear scenario (asleep ++ Control ∷ []) ≡ false
not_while_asleep = refl

-- the script doesn't pass its wait while a log has a line left
not_before_the_logs_end : leads linear scenario (asleep ++ Clock ∷ Control ∷ Control ∷ []) ≡ false
not_before_the_logs_end = refl
