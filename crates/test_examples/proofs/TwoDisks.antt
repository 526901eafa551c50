-- A write across two linear lines: each piece goes to its own disk, at the line's own offset.
use Rattle.test_examples.specs.Words.{String, ◌≡◌, ℕ, List, [], ◌∷◌, ◌++◌, Option, refl, Ram, Dm}
use Rattle.test_examples.specs.Words.{Read, Write, Event, Line, Map, Serve, Finish, Replay, Scenario}
use Rattle.test_examples.specs.Words.{Table, disk, to, row, step, create, operate, log_on}
use Rattle.test_examples.specs.Words.{first_lines, mapped, reported, lines, Simple, Linear, simple}
use Rattle.test_examples.specs.Words.{digits, runs_list, runs_text}

-- `0 4 linear /dev/ram0 2`, `4 4 linear /dev/ram1 0`
abbrev table : Table Simple
table = row 0 4 (Linear (to (Ram 0) 2)) ∷ row 4 4 (Linear (to (Ram 1) 0)) ∷ []

-- the first log writes the sectors 3 and 4 and reads them, the others read a disk each
abbrev scenario : Scenario Simple
scenario = record {
  disks = disk 0 6 ∷ disk 1 4 ∷ [];
  versions = (table ∷ []) ∷ [];
  micros = create 3 0 ∷ step 4 Replay ∷ [];
  logs = log_on (Dm 0) (operate Write 3 2 ∷ operate Read 3 2 ∷ [])
      ∷ log_on (Ram 0) (operate Read 4 2 ∷ []) ∷ log_on (Ram 1) (operate Read 0 2 ∷ []) ∷ [];
}

-- the write and the read, their pieces in either order
abbrev both : List Event
both = mapped ++ Serve 3 ∷ Serve 2 ∷ Finish 1
    ∷ Line 1 ∷ Map 4 ∷ Serve 6 ∷ Serve 5 ∷ Finish 4 ∷ []

-- a report where these reads of the two disks are told
abbrev told : String → String → Option (List ℕ)
told of_0 of_1 = lines ("accepted budget=22" ∷ "log a" ∷ "4 write ok" ∷ "5 read 1024x14" ∷ "log a"
    ∷ of_0 ∷ "log a" ∷ of_1 ∷ "done steps=22 clock=0 now=0" ∷ [])

-- the disks are read: each has one sector of the write
report_is : reported simple scenario (both ++ first_lines 2 ++ Serve 7 ∷ first_lines 3
    ++ Serve 8 ∷ []) ≡ told "4 read 512x00 512x14" "4 read 512x14 512x00"
unfolding runs_list runs_text digits
report_is = refl

-- pieces are numbered in their order: bio 2 is sector 3's, so disk 0 is written by it, and a read
-- of disk 1 that comes before bio 3 gives zeroes
abbrev halfway : List Event
halfway = mapped ++ Serve 2 ∷ first_lines 2 ++ Serve 4 ∷ first_lines 3 ++ Serve 5 ∷ Serve 3
    ∷ Finish 1 ∷ Line 1 ∷ Map 6 ∷ Serve 7 ∷ Serve 8 ∷ Finish 6 ∷ []

-- the read of disk 1 gives zeroes
halfway_report : reported simple scenario halfway
    ≡ told "4 read 512x00 512x14" "4 read 1024x00"
unfolding runs_list runs_text digits
halfway_report = refl
