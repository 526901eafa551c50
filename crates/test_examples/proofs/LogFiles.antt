-- A log's files: added, then opened, then used, and closed; two names of one device are one file.
use Rattle.test_examples.specs.Words.{◌≡◌, ℕ, Bool, true, false, List, [], ◌∷◌, ◌++◌, Option, Some}
use Rattle.test_examples.specs.Words.{None, replicate, map, refl, DevNo, Ram, Dm, Read, Sync, Entry}
use Rattle.test_examples.specs.Words.{Add, Open, Close, Event, Line, Serve, Replay, Scenario}
use Rattle.test_examples.specs.Words.{LogLine, State, disk, one_row, step, create, operate, pause}
use Rattle.test_examples.specs.Words.{lines_from, log_of, controls, reached, leads, Simple, Error}
use Rattle.test_examples.specs.Words.{simple}

-- disks 0 and 1 of 4 sectors, two devices of an error line, and a log of these lines
abbrev scenario : List LogLine → Scenario Simple
scenario log = record {
  disks = disk 0 4 ∷ disk 1 4 ∷ [];
  versions = (one_row 4 Error ∷ []) ∷ (one_row 4 Error ∷ []) ∷ [];
  micros = create 3 0 ∷ create 4 1 ∷ step 5 Replay ∷ [];
  logs = log_of log ∷ [];
}

-- the lines of a log on disk 0, each with its event, and no operation
abbrev on_disk : List Entry → List LogLine
on_disk entries = lines_from (Ram 0) 2 entries

-- so many lines of the log
abbrev taken : ℕ → List Event
taken count = controls 3 ++ replicate count (Line 1)

-- whether so many lines of the log may be taken
abbrev takes : List LogLine → ℕ → Bool
takes log count = leads simple (scenario log) (taken count)

-- a file may be opened again after a close without another add, and a second add does nothing
again : leads simple
    (scenario (on_disk (Add ∷ Add ∷ Open ∷ Add ∷ Close ∷ Open ∷ operate Read 0 1 ∷ [])))
    (taken 7 ++ Serve 1 ∷ []) ≡ true
again = refl

-- the files of each log that are added, after a history
abbrev files : Option (State Simple) → List (List DevNo)
files None = []
files (Some s) = map (λ log. log.files.added) s.logs

-- a file that is added twice stands there once
once : files (reached simple (scenario (on_disk (Add ∷ Add ∷ []))) (taken 2)) ≡ (Ram 0 ∷ []) ∷ []
once = refl

-- a file is opened before it is added
not_before_the_add : takes (on_disk (Open ∷ [])) 1 ≡ false
not_before_the_add = refl

-- an open file is opened
not_twice : takes (on_disk (Add ∷ Open ∷ Open ∷ [])) 3 ≡ false
not_twice = refl

-- a file is read that is added and not open
not_before_the_open : takes (on_disk (Add ∷ operate Read 0 1 ∷ [])) 2 ≡ false
not_before_the_open = refl

-- a file is closed that is closed
not_closed_twice : takes (on_disk (Add ∷ Open ∷ Close ∷ Close ∷ [])) 4 ≡ false
not_closed_twice = refl

-- disks of two numbers are two files
not_another_disk : takes (on_disk (Add ∷ []) ++ lines_from (Ram 1) 3 (Open ∷ [])) 2 ≡ false
not_another_disk = refl

-- a file stays open when another is closed
not_all_closed : takes (on_disk (Add ∷ Open ∷ []) ++ lines_from (Ram 1) 4 (Add ∷ Open ∷ Close ∷ [])
    ++ lines_from (Ram 0) 7 (operate Read 0 1 ∷ [])) 6 ≡ true
not_all_closed = refl

-- a device that isn't there is added
not_where_none_is : takes (lines_from (Ram 2) 2 (Add ∷ [])) 1 ≡ false
not_where_none_is = refl

-- a wait needs no file
no_file : takes (record { number = 2; device = None; entry = pause 200 } ∷ []) 1 ≡ true
no_file = refl

-- a file is used that is closed; one is opened that was added under another device, or read that was
-- opened under another; mapped devices of two numbers are two files
nor_these : (takes (on_disk (Add ∷ Open ∷ Close ∷ operate Sync 0 0 ∷ [])) 4 ≡ false)
    × (takes (on_disk (Add ∷ []) ++ lines_from (Dm 0) 3 (Open ∷ [])) 2 ≡ false)
    × (takes (on_disk (Add ∷ Open ∷ []) ++ lines_from (Dm 0) 4 (operate Read 0 1 ∷ [])) 3 ≡ false)
    × (takes (lines_from (Dm 0) 2 (Add ∷ []) ++ lines_from (Dm 1) 3 (Open ∷ [])) 2 ≡ false)
nor_these = (refl, refl, refl, refl)
