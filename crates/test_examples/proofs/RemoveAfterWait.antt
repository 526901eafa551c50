-- A device is removed and one of its name is created: it has a number of its own, and its table
-- is told.
use Rattle.test_examples.specs.Words.{◌≡◌, false, List, [], ◌∷◌, ◌++◌, None, refl, Ram, Dm, Ref}
use Rattle.test_examples.specs.Words.{linear, Read, Write, Close, Event, Line, Remove, Replay, Wait}
use Rattle.test_examples.specs.Words.{Scenario, Table, disk, to, one_row, step, create, tell_table}
use Rattle.test_examples.specs.Words.{operate, log_on, controls, entered, through, leads, reported}
use Rattle.test_examples.specs.Words.{lines, digits, runs_list, runs_text}

-- `0 8 linear /dev/ram0 0`
abbrev table : Table Ref
table = one_row 8 (to (Ram 0) 0)

-- two devices of that table, one after the other
abbrev scenario : Scenario Ref
scenario = record {
  disks = disk 0 8 ∷ [];
  versions = (table ∷ []) ∷ (table ∷ []) ∷ [];
  micros = create 2 0 ∷ step 3 Replay ∷ step 4 Wait ∷ step 5 (Remove 0) ∷ create 6 1
      ∷ tell_table 7 1 ∷ [];
  logs = log_on (Dm 0) (operate Write 0 1 ∷ operate Read 0 1 ∷ Close ∷ []) ∷ [];
}

-- the write and the read
abbrev both : List Event
both = entered ++ through 1 ++ Line 1 ∷ through 3 ++ Line 1 ∷ []

-- the new device tells its table
report_is : reported linear scenario (both ++ controls 4) ≡ lines
    ("accepted budget=17" ∷ "script 7 0 8 linear 1:0 0" ∷ "log a" ∷ "4 write ok"
    ∷ "5 read 512x14" ∷ "done steps=17 clock=0 now=0" ∷ [])
unfolding runs_list runs_text digits
report_is = refl

-- not all is done while the script has a step left
not_before_the_last_step : reported linear scenario (both ++ controls 3) ≡ None
not_before_the_last_step = refl

-- what is removed is told no more, and the device that comes after it has another number
abbrev number_0_again : Scenario Ref
number_0_again = record scenario {
  micros = create 2 0 ∷ step 3 (Remove 0) ∷ create 4 1 ∷ tell_table 5 0 ∷ [];
}

-- number 0 stands for no device any more
not_used_again : leads linear number_0_again (controls 4) ≡ false
not_used_again = refl

-- the script doesn't pass its wait while the log has lines left
not_before_the_lines : leads linear scenario (controls 3) ≡ false
not_before_the_lines = refl
