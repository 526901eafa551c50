-- A dust line: a block is listed, reads of it fail once that is enabled, and a write takes it off
-- the list.
use Rattle.test_examples.specs.Words.{◌≡◌, ℕ, ◌+◌, List, [], ◌∷◌, ◌++◌, refl, Dm, DustLine}
use Rattle.test_examples.specs.Words.{dust_target, Read, Write, Event, Line, Map, Serve, Finish}
use Rattle.test_examples.specs.Words.{Micro, Status, Replay, Wait, Scenario, dust, step, create}
use Rattle.test_examples.specs.Words.{message, operate, log_on, scripted, controls, first_lines}
use Rattle.test_examples.specs.Words.{through, reported, lines, digits, runs_list, runs_text}
use Rattle.test_examples.specs.Words.{words_of, number_of}

-- the steps after the replay, from this line on: the listed blocks are counted, and the status told
abbrev questions : ℕ → List Micro
questions at_line = step at_line Wait ∷ message (at_line + 1) 0 "countbadblocks"
    ∷ step (at_line + 2) (Status 0) ∷ []

-- `0 8 dust /dev/ram0 0 1024`; a read across blocks 0 and 1, a write into block 0, and a read of
-- block 0
abbrev scenario_of : List Micro → Scenario DustLine
scenario_of script = scripted 8 ((dust 0 8 0 ∷ []) ∷ [])
    (create 2 0 ∷ message 3 0 "addbadblock 0" ∷ message 4 0 "addbadblock 0" ∷ script)
    (log_on (Dm 0) (operate Read 1 2 ∷ operate Write 0 1 ∷ operate Read 0 2 ∷ []) ∷ [])

-- the list is enabled before the replay
abbrev enabled : Scenario DustLine
enabled = scenario_of (message 5 0 "enable" ∷ step 6 Replay ∷ questions 7)

-- the list is never enabled
abbrev bypassed : Scenario DustLine
bypassed = scenario_of (step 5 Replay ∷ questions 6)

-- where the list is enabled, block 0 fails, and one piece goes on
abbrev run_enabled : List Event
run_enabled = controls 5 ++ first_lines 1 ++ through 1 ++ Line 1 ∷ through 3 ++ Line 1 ∷ through 5
    ++ controls 3

-- the read of block 0 fails, and a write takes the block off the list
enabled_report : reported dust_target enabled run_enabled ≡ lines
    ("accepted budget=23" ∷ "script 3 added" ∷ "script 4 already" ∷ "script 5 enabled"
    ∷ "script 8 0" ∷ "script 9 0 8 dust 1:0 fail_read_on_bad_block verbose" ∷ "log a"
    ∷ "4 read EIO" ∷ "5 write ok" ∷ "6 read 512x15 512x00" ∷ "done steps=22 clock=0 now=0" ∷ [])
unfolding runs_list runs_text digits words_of number_of
enabled_report = refl

-- in bypass both pieces go on, and the block stays listed
abbrev run_bypassed : List Event
run_bypassed = controls 4 ++ first_lines 1 ++ Map 1 ∷ Serve 2 ∷ Serve 3 ∷ Finish 1
    ∷ Line 1 ∷ through 4 ++ Line 1 ∷ through 6 ++ controls 3

-- all reads succeed, and the count is told
bypassed_report : reported dust_target bypassed run_bypassed ≡ lines
    ("accepted budget=22" ∷ "script 3 added" ∷ "script 4 already" ∷ "script 7 1"
    ∷ "script 8 0 8 dust 1:0 bypass verbose" ∷ "log a" ∷ "4 read 1024x00" ∷ "5 write ok"
    ∷ "6 read 512x15 512x00" ∷ "done steps=22 clock=0 now=0" ∷ [])
unfolding runs_list runs_text digits words_of number_of
bypassed_report = refl
