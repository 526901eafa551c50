-- Three logs on one disk: two write the same sector, and the third reads it.
use Rattle.test_examples.specs.Words.{◌≡◌, ℕ, List, [], ◌∷◌, ◌++◌, Option, Some, slice_get, refl}
use Rattle.test_examples.specs.Words.{Ram, Ref, linear, Answer, Runs, Action, Read, Write, Event}
use Rattle.test_examples.specs.Words.{Serve, Control, Replay, budget, Scenario, LogPlan, disk, step}
use Rattle.test_examples.specs.Words.{operate, log_on, first_lines, reached, answers_in, answer, run}
use Rattle.test_examples.specs.Words.{runs_list}

-- a log that does one operation on the disk's first sector
abbrev log : Action → LogPlan
log action = log_on (Ram 0) (operate action 0 1 ∷ [])

-- two logs write, and the third reads
abbrev scenario : Scenario Ref
scenario = record {
  disks = disk 0 8 ∷ [];
  versions = [];
  micros = step 2 Replay ∷ [];
  logs = log Write ∷ log Write ∷ log Read ∷ [];
}

-- the lines of a log, and its operation on the disk
abbrev turn : ℕ → ℕ → List Event
turn number bio = first_lines number ++ Serve bio ∷ []

-- one step of the script, nine lines, and an event for each operation
budget_is : budget linear scenario ≡ 13
budget_is = refl

-- what the third log is told after these events
abbrev read_after : List Event → Option (List Answer)
read_after events = slice_get (answers_in (reached linear scenario events)) 2

-- a read of one sector that gave one byte throughout
abbrev one_byte : ℕ → Option (List Answer)
one_byte byte = Some (answer 4 Read (Runs (run 512 byte ∷ [])) ∷ [])

-- where the second log writes last, the read gives 16 * 2 + 4
second_last : read_after (Control ∷ turn 1 1 ++ turn 2 2 ++ turn 3 3) ≡ one_byte 36
unfolding runs_list
second_last = refl

-- where the first log writes last, it gives 16 * 1 + 4, and zeroes where none has written yet
in_other_orders : (read_after (Control ∷ turn 2 1 ++ turn 1 2 ++ turn 3 3) ≡ one_byte 20)
    × (read_after (Control ∷ turn 3 1 ++ turn 1 2 ++ turn 2 3) ≡ one_byte 0)
unfolding runs_list
in_other_orders = (refl, refl)
