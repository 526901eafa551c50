-- Each load of a table has a state of its own: messages change the live one, and a swap brings a
-- fresh one in.
use Rattle.test_examples.specs.Words.{◌≡◌, [], ◌∷◌, ◌++◌, refl, DustLine, dust_target, Load, Status}
use Rattle.test_examples.specs.Words.{Replay, Scenario, Table, dust, step, create, message, resume}
use Rattle.test_examples.specs.Words.{scripted, controls, reported, lines, digits, words_of}
use Rattle.test_examples.specs.Words.{number_of}

-- `0 4 dust /dev/ram0 0 1024`, loaded twice
abbrev table : Table DustLine
table = dust 0 4 0 ∷ []

-- a block is listed before and after a load; then the device gets the loaded table, which has a
-- list of its own, and keeps it when it is resumed once more
abbrev scenario : Scenario DustLine
scenario = scripted 4 (table ∷ table ∷ [])
    (create 2 0 ∷ message 3 0 "addbadblock 0" ∷ step 4 (Load 0 1) ∷ message 5 0 "addbadblock 1"
    ∷ message 6 0 "countbadblocks" ∷ resume 7 ++ message 8 0 "countbadblocks"
    ∷ message 9 0 "addbadblock 1" ∷ resume 10 ++ message 11 0 "listbadblocks"
    ∷ message 12 0 "quiet" ∷ step 13 (Status 0) ∷ step 14 Replay ∷ []) []

-- each count is that of the live table
report_is : reported dust_target scenario (controls 17) ≡ lines
    ("accepted budget=17" ∷ "script 3 added" ∷ "script 5 added" ∷ "script 6 2" ∷ "script 8 0"
    ∷ "script 9 added" ∷ "script 11 1" ∷ "script 12 quiet"
    ∷ "script 13 0 4 dust 1:0 bypass quiet" ∷ "done steps=17 clock=0 now=0" ∷ [])
unfolding digits words_of number_of
report_is = refl
