-- Events that nothing stands for, and ends of devices and disks.
use Rattle.test_examples.specs.Words.{◌≡◌, Bool, true, false, List, [], ◌∷◌, ◌++◌, None, refl, DevNo}
use Rattle.test_examples.specs.Words.{Ram, Dm, Read, Write, Trim, Sync, Entry, Event, Line, Map}
use Rattle.test_examples.specs.Words.{Serve, Release, Finish, Control, Create, Replay, Scenario}
use Rattle.test_examples.specs.Words.{disk, to, one_row, step, create, operate, log_on, controls}
use Rattle.test_examples.specs.Words.{first_lines, leads, Simple, Linear, simple}

-- disk 0 of 4 sectors, a device of 6 over it, one over a disk that isn't there, one without a
-- table, and a log of one operation on a device
abbrev scenario : DevNo → Entry → Scenario Simple
scenario device entry = record {
  disks = disk 0 4 ∷ [];
  versions = (one_row 6 (Linear (to (Ram 0) 0)) ∷ []) ∷ (one_row 6 (Linear (to (Ram 9) 0)) ∷ [])
      ∷ [] ∷ [];
  micros = create 2 0 ∷ create 3 1 ∷ step 4 (Create 2 None) ∷ step 5 Replay ∷ [];
  logs = log_on device (entry ∷ []) ∷ [];
}

-- whether the events may follow on the log's operation
abbrev follow : DevNo → Entry → List Event → Bool
follow device entry events =
    leads simple (scenario device entry) (controls 4 ++ first_lines 1 ++ events)

-- a read inside the disk, and a write inside the device
inside : (follow (Ram 0) (operate Read 3 1) (Serve 1 ∷ []) ≡ true)
    × (follow (Dm 0) (operate Write 2 2) (Map 1 ∷ Serve 2 ∷ Finish 1 ∷ []) ≡ true)
inside = (refl, refl)

-- a sync has no sectors, whatever its line says
sync : follow (Dm 0) (operate Sync 100 9) (Map 1 ∷ Serve 2 ∷ Finish 1 ∷ []) ≡ true
sync = refl

-- a sync at a disk
sync_at_the_disk : follow (Ram 0) (operate Sync 100 9) (Serve 1 ∷ []) ≡ true
sync_at_the_disk = refl

-- a read past the end of the disk
past_the_disk : follow (Ram 0) (operate Read 3 2) (Serve 1 ∷ []) ≡ false
past_the_disk = refl

-- a write past the end of the disk
written_past_the_disk : follow (Ram 0) (operate Write 3 2) (Serve 1 ∷ []) ≡ false
written_past_the_disk = refl

-- a trim past the end of the disk
trimmed_past_the_disk : follow (Ram 0) (operate Trim 4 1) (Serve 1 ∷ []) ≡ false
trimmed_past_the_disk = refl

-- a read past the end of the device
past_the_device : follow (Dm 0) (operate Read 5 2) (Map 1 ∷ []) ≡ false
past_the_device = refl

-- a piece that would go to a disk that isn't there
no_disk_below : follow (Dm 1) (operate Read 0 1) (Map 1 ∷ []) ≡ false
no_disk_below = refl

-- a device without a table
no_table : follow (Dm 2) (operate Sync 0 0) (Map 1 ∷ []) ≡ false
no_table = refl

-- a mapped device serves nothing
not_served : follow (Dm 0) (operate Read 0 1) (Serve 1 ∷ []) ≡ false
not_served = refl

-- what enters isn't answered
not_finished : follow (Dm 0) (operate Read 0 1) (Finish 1 ∷ []) ≡ false
not_finished = refl

-- what is answered isn't answered again
not_answered_twice : follow (Ram 0) (operate Read 0 1) (Serve 1 ∷ Serve 1 ∷ []) ≡ false
not_answered_twice = refl

-- no log has the number 0
no_log : follow (Ram 0) (operate Read 0 1) (Line 0 ∷ []) ≡ false
no_log = refl

-- the log has taken its last line
no_line_left : follow (Ram 0) (operate Read 0 1) (Serve 1 ∷ Line 1 ∷ []) ≡ false
no_line_left = refl

-- the script has done its last step
no_step_left : follow (Ram 0) (operate Read 0 1) (Control ∷ []) ≡ false
no_step_left = refl

-- a write that is inside the device goes past the end of the device's disk; a bio at a disk isn't
-- mapped, what enters isn't released, and what is in flight isn't mapped again; no bio has the
-- number 0, and there is one log
nor_these : (follow (Dm 0) (operate Write 3 2) (Map 1 ∷ Serve 2 ∷ []) ≡ false)
    × (follow (Ram 0) (operate Read 0 1) (Map 1 ∷ []) ≡ false)
    × (follow (Dm 0) (operate Read 0 1) (Release 1 ∷ []) ≡ false)
    × (follow (Dm 0) (operate Read 0 1) (Map 1 ∷ Map 1 ∷ []) ≡ false)
    × (follow (Ram 0) (operate Read 0 1) (Serve 0 ∷ []) ≡ false)
    × (follow (Ram 0) (operate Read 0 1) (Line 2 ∷ []) ≡ false)
nor_these = (refl, refl, refl, refl, refl, refl)
