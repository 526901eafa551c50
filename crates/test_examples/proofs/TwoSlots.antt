-- A device's two slots: a load leaves the live table as it is, a clear empties the inactive slot,
-- and what is swapped in stands there no more.
use Rattle.test_examples.specs.Words.{◌≡◌, ℕ, Bool, false, List, [], ◌∷◌, ◌++◌, Some, None, refl}
use Rattle.test_examples.specs.Words.{Ram, Micro, Create, Load, Clear, Begin, Remove, Status, Replay}
use Rattle.test_examples.specs.Words.{Scenario, to, one_row, step, create, tell_table, resume}
use Rattle.test_examples.specs.Words.{scripted, controls, leads, reported, lines, Simple, Linear}
use Rattle.test_examples.specs.Words.{Zero, Error, simple, digits}

-- a script without logs, on a device of the tables `0 4 linear /dev/ram0 0`, `0 4 error` and
-- `0 4 zero`
abbrev scenario : List Micro → Scenario Simple
scenario script = scripted 4
    (one_row 4 (Linear (to (Ram 0) 0)) ∷ one_row 4 Error ∷ one_row 4 Zero ∷ []) script []

-- a load, a resume, and a resume that finds the inactive slot empty
abbrev swapped : Scenario Simple
swapped = scenario (create 2 0 ∷ step 3 (Load 0 1) ∷ tell_table 4 0 ∷ step 5 (Load 0 2)
    ∷ resume 6 ++ tell_table 7 0 ∷ resume 8 ++ tell_table 9 0 ∷ step 10 (Status 0)
    ∷ step 11 Replay ∷ [])

-- the last load is swapped in, and stays
swapped_report : reported simple swapped (controls 14) ≡ lines
    ("accepted budget=14" ∷ "script 4 0 4 linear 1:0 0" ∷ "script 7 0 4 zero"
    ∷ "script 9 0 4 zero" ∷ "script 10 0 4 zero" ∷ "done steps=14 clock=0 now=0" ∷ [])
unfolding digits
swapped_report = refl

-- a load that is cleared, and a resume
abbrev cleared : Scenario Simple
cleared = scenario (create 2 0 ∷ step 3 (Load 0 1) ∷ step 4 (Clear 0) ∷ resume 5
    ++ tell_table 6 0 ∷ step 7 Replay ∷ [])

-- the live table stays
cleared_report : reported simple cleared (controls 8) ≡ lines
    ("accepted budget=8" ∷ "script 6 0 4 linear 1:0 0" ∷ "done steps=8 clock=0 now=0" ∷ [])
unfolding digits
cleared_report = refl

-- a device that is created without a table gets one
abbrev without : Scenario Simple
without = scenario (step 2 (Create 0 None) ∷ step 3 (Load 0 2) ∷ resume 4
    ++ tell_table 5 0 ∷ step 6 Replay ∷ [])

-- the loaded table is live
without_report : reported simple without (controls 7) ≡ lines
    ("accepted budget=7" ∷ "script 5 0 4 zero" ∷ "done steps=7 clock=0 now=0" ∷ [])
unfolding digits
without_report = refl

-- whether the script of these steps may take so many
abbrev takes : List Micro → ℕ → Bool
takes script count = leads simple (scenario script) (controls count)

-- a table command to a device without a table
no_table : takes (step 2 (Create 0 None) ∷ tell_table 3 0 ∷ []) 2 ≡ false
no_table = refl

-- a status of a device whose only table is inactive
not_live_yet : takes (step 2 (Create 0 None) ∷ step 3 (Load 0 2) ∷ step 4 (Status 0) ∷ []) 3
    ≡ false
not_live_yet = refl

-- a status of a device that is removed
gone : takes (create 2 0 ∷ step 3 (Remove 0) ∷ step 4 (Status 0) ∷ []) 3 ≡ false
gone = refl

-- a suspend of a device that was never created
never_there : takes (step 2 (Begin 0) ∷ []) 1 ≡ false
never_there = refl

-- a remove of a device that was never created
not_removed : takes (step 2 (Remove 0) ∷ []) 1 ≡ false
not_removed = refl

-- a create of a version that isn't there
no_version : takes (step 2 (Create 0 (Some 3)) ∷ []) 1 ≡ false
no_version = refl

-- a load of a version that isn't there, into a device that is
no_version_to_load : takes (create 2 0 ∷ step 3 (Load 0 3) ∷ []) 2 ≡ false
no_version_to_load = refl
