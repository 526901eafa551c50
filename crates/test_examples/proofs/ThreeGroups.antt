-- A line with a group for reads, one for writes and trims, and one for flushes: a sync goes to the
-- third, and a trim is held as a write is.
use Rattle.test_examples.specs.Words.{String, ◌≡◌, ℕ, false, Option, List, [], ◌∷◌, ◌++◌, refl, Ram}
use Rattle.test_examples.specs.Words.{Dm, Groups, delay_target, Read, Trim, Sync, Datasync, Entry}
use Rattle.test_examples.specs.Words.{Event, Serve, Release, Finish, Control, Clock, Micro, Status}
use Rattle.test_examples.specs.Words.{Replay, Wait, Scenario, disk, to, group, one_row, step, create}
use Rattle.test_examples.specs.Words.{operate, log_on, mapped, leads, reported, lines, digits}
use Rattle.test_examples.specs.Words.{runs_list, runs_text}
use Rattle.lab_delay.specs.Delay.{Group}

-- where a kind goes: to this disk, held for so many milliseconds
abbrev sent : ℕ → ℕ → Group
sent number delay = group (to (Ram number) 0) delay

-- disks 0 to 2, one line, a script and one operation
abbrev scenario : Groups → List Micro → Entry → Scenario Groups
scenario groups script entry = record {
  disks = disk 0 4 ∷ disk 1 4 ∷ disk 2 4 ∷ [];
  versions = (one_row 4 groups ∷ []) ∷ [];
  micros = create 4 0 ∷ step 5 Replay ∷ script;
  logs = log_on (Dm 0) (entry ∷ []) ∷ [];
}

-- `0 4 delay /dev/ram0 0 0 /dev/ram1 0 0 /dev/ram2 0 5`, and a sync
abbrev syncing : Scenario Groups
syncing = scenario (sent 0 0 ∷ sent 1 0 ∷ sent 2 5 ∷ []) [] (operate Sync 0 0)

-- the sync is held
sync_report : reported delay_target syncing (mapped ++ Clock ∷ Release 2 ∷ Serve 2 ∷ Finish 1 ∷ [])
    ≡ lines ("accepted budget=9" ∷ "log a" ∷ "4 sync ok" ∷ "done steps=9 clock=1 now=5000" ∷ [])
unfolding runs_list runs_text digits
sync_report = refl

-- `0 4 delay /dev/ram0 0 1 /dev/ram1 0 2 /dev/ram2 0 3`, and the same status twice, while an
-- operation is held and after it has gone on
abbrev looking : Entry → Scenario Groups
looking entry = scenario (sent 0 1 ∷ sent 1 2 ∷ sent 2 3 ∷ [])
    (step 6 (Status 0) ∷ step 7 Wait ∷ step 8 (Status 0) ∷ []) entry

-- an operation is held, its status told, and then it goes on
abbrev looked : List Event
looked = mapped ++ Control ∷ Clock ∷ Release 2 ∷ Serve 2 ∷ Finish 1 ∷ Control ∷ Control ∷ []

-- a report of this status while the operation is held, this answer and this end
abbrev told : String → String → String → Option (List ℕ)
told held answer end = lines ("accepted budget=12" ∷ held ∷ "script 8 0 4 delay 0 0 0" ∷ "log a"
    ∷ answer ∷ end ∷ [])

-- a read, a trim and a sync are counted apart, a trim among the writes
read_report : reported delay_target (looking (operate Read 0 1)) looked
    ≡ told "script 6 0 4 delay 1 0 0" "4 read 512x00" "done steps=12 clock=1 now=1000"
unfolding runs_list runs_text digits
read_report = refl

-- a trim is counted among the writes
trim_report : reported delay_target (looking (operate Trim 0 1)) looked
    ≡ told "script 6 0 4 delay 0 1 0" "4 trim ok" "done steps=12 clock=1 now=2000"
unfolding runs_list runs_text digits
trim_report = refl

-- a datasync is counted among the flushes
sync_held_report : reported delay_target (looking (operate Datasync 0 0)) looked
    ≡ told "script 6 0 4 delay 0 0 1" "4 datasync ok" "done steps=12 clock=1 now=3000"
unfolding runs_list runs_text digits
sync_held_report = refl

-- the script doesn't pass its wait while the log's last operation is under way
not_while_busy : leads delay_target (looking (operate Read 0 1)) (mapped ++ Control ∷ Control ∷ [])
    ≡ false
not_while_busy = refl
