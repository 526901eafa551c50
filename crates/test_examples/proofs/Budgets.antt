-- An operation costs what the dearest of its device's tables takes that has its sectors; a sync
-- is taken over all tables.
use Rattle.test_examples.specs.Words.{◌≡◌, ℕ, List, [], ◌∷◌, ◌++◌, refl, Ram, Dm, Read, Sync, Entry}
use Rattle.test_examples.specs.Words.{Load, Replay, TableLine, budget, Scenario, Table, to, row}
use Rattle.test_examples.specs.Words.{one_row, step, create, resume, operate, log_on, scripted}
use Rattle.test_examples.specs.Words.{Simple, Linear, Error, simple}

-- a line to the same sectors of disk 0
abbrev straight : ℕ → ℕ → TableLine Simple
straight start len = row start len (Linear (to (Ram 0) start))

-- tables of 3, 1 and 2 lines, the first of them of 3 sectors alone, and one of an error line
abbrev tables : List (Table Simple)
tables = (straight 0 1 ∷ straight 1 1 ∷ straight 2 1 ∷ []) ∷ (straight 0 8 ∷ [])
    ∷ (straight 0 4 ∷ straight 4 4 ∷ []) ∷ one_row 8 Error ∷ []

-- the first table is replaced before the replay, the others after it
abbrev scenario : List Entry → Scenario Simple
scenario entries = scripted 8 tables
    (create 2 0 ∷ step 3 (Load 0 1) ∷ resume 4 ++ step 5 Replay ∷ step 6 (Load 0 2)
    ∷ step 7 (Load 0 3) ∷ []) (log_on (Dm 0) entries ∷ [])

-- 8 steps, an add and an open
of_no_operation : budget simple (scenario []) ≡ 10
of_no_operation = refl

-- a read of the sectors 3 and 4: its line, its Map and Finish, and 2 pieces of the third table
of_a_read : budget simple (scenario (operate Read 3 2 ∷ [])) ≡ 15
of_a_read = refl

-- a read of the sectors 1 to 3, which the first table hasn't: one piece of the second or third
of_a_longer_read : budget simple (scenario (operate Read 1 3 ∷ [])) ≡ 14
of_a_longer_read = refl

-- a sync: its line, its Map and Finish, and 3 pieces of the first table
of_a_sync : budget simple (scenario (operate Sync 0 0 ∷ [])) ≡ 16
of_a_sync = refl
