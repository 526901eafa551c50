-- Blocks of two sectors: they are counted from the line's first sector, a bio is cut at their
-- edges, and a message goes to the line that has its sector.
use Rattle.test_examples.specs.Words.{String, ◌≡◌, ℕ, false, List, [], ◌∷◌, ◌++◌, refl, Dm, DustLine}
use Rattle.test_examples.specs.Words.{dust_target, Read, Write, Event, Line, Map, Serve, Finish}
use Rattle.test_examples.specs.Words.{Status, Replay, Scenario, Table, dust, step, create, message}
use Rattle.test_examples.specs.Words.{operate, log_on, scripted, replayed, controls, first_lines}
use Rattle.test_examples.specs.Words.{mapped, through, leads, reported, lines, digits, runs_list}
use Rattle.test_examples.specs.Words.{runs_text, words_of, number_of}

-- `0 8 dust /dev/ram0 0 1024` and a read of the sectors 1 and 2
abbrev across : Scenario DustLine
across = replayed 8 (dust 0 8 0 ∷ []) (log_on (Dm 0) (operate Read 1 2 ∷ []) ∷ [])

-- the read is cut into a piece of each block; the pieces are served from the last one on, and the
-- read has both
across_report : reported dust_target across (mapped ++ Serve 3 ∷ Serve 2 ∷ Finish 1 ∷ []) ≡ lines
    ("accepted budget=9" ∷ "log a" ∷ "4 read 1024x00" ∷ "done steps=9 clock=0 now=0" ∷ [])
unfolding runs_list runs_text digits words_of number_of
across_report = refl

-- the read waits for both of its pieces
not_after_one : leads dust_target across (mapped ++ Serve 3 ∷ Finish 1 ∷ []) ≡ false
not_after_one = refl

-- `0 3 dust /dev/ram0 0 1024` and `3 4 dust /dev/ram0 4 1024`: the second line's block 1 has the
-- device's sectors 5 and 6
abbrev table : Table DustLine
table = dust 0 3 0 ∷ dust 3 4 4 ∷ []

-- a message to sector 6 lists block 1 of the second line, and sectors 4 and 5 are read
abbrev second_line : Scenario DustLine
second_line = scripted 8 (table ∷ [])
    (create 2 0 ∷ message 3 6 "addbadblock 1" ∷ message 4 6 "ENABLE" ∷ step 5 (Status 0)
    ∷ step 6 Replay ∷ [])
    (log_on (Dm 0) (operate Read 4 1 ∷ operate Read 5 1 ∷ operate Read 2 1
    ∷ operate Write 6 1 ∷ operate Read 5 2 ∷ []) ∷ [])

-- sector 4 is of block 0 and is read, sector 5 is of block 1 and fails until sector 6 is written,
-- which is of block 1 too; the first line is in bypass
abbrev history : List Event
history = controls 5 ++ first_lines 1 ++ through 1 ++ Line 1 ∷ Map 3 ∷ Finish 3
    ∷ Line 1 ∷ through 4 ++ Line 1 ∷ through 6 ++ Line 1 ∷ through 8

-- each line tells its own state, and each operation its own answer
second_line_report : reported dust_target second_line history ≡ lines
    ("accepted budget=27" ∷ "script 3 added" ∷ "script 4 enabled"
    ∷ "script 5 0 3 dust 1:0 bypass verbose"
    ∷ "script 5 3 4 dust 1:0 fail_read_on_bad_block verbose" ∷ "log a" ∷ "4 read 512x00"
    ∷ "5 read EIO" ∷ "6 read 512x00" ∷ "7 write ok" ∷ "8 read 512x00 512x17"
    ∷ "done steps=26 clock=0 now=0" ∷ [])
unfolding runs_list runs_text digits words_of number_of
second_line_report = refl

-- a script that sends a message to a sector
abbrev wrong_message : ℕ → String → Scenario DustLine
wrong_message sector text = scripted 8 (table ∷ []) (create 2 0 ∷ message 3 sector text ∷ []) []

-- the device ends at sector 7
not_past_the_end : leads dust_target (wrong_message 7 "enable") (controls 2) ≡ false
not_past_the_end = refl

-- the first line has the blocks 0 and 1
not_a_block_past_the_line : leads dust_target (wrong_message 0 "addbadblock 2") (controls 2)
    ≡ false
unfolding words_of number_of
not_a_block_past_the_line = refl
