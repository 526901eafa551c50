-- A read of two sectors, computed step by step: the first reads as zeroes, the second goes on to a
-- disk. Once the read is judged, the first is recorded as zero bytes and nothing is recorded of the
-- second, though the buffer has zero bytes for both.
use Rattle.lab_model.proofs.Common.{option_map, Stage, InFlight}
use Rattle.test_examples.specs.Words.{◌≡◌, ℕ, false, List, [], ◌∷◌, ◌++◌, Option, Some, None, refl}
use Rattle.test_examples.specs.Words.{Ram, Dm, Read, Event, Serve, Scenario, State, bio_of, to, row}
use Rattle.test_examples.specs.Words.{operate, log_on, replayed, entered, mapped, reached, Simple}
use Rattle.test_examples.specs.Words.{Linear, Zero, simple}
use Rattle.law_reads_recorded.specs.Recorded.{records_of}
use Rattle.std.specs.Prelude.{replicate}

-- `0 1 zero`, `1 1 linear /dev/ram0 0`; a log reads both sectors, and nothing writes to the disk
abbrev scenario : Scenario Simple
scenario = replayed 1 (row 0 1 Zero ∷ row 1 1 (Linear (to (Ram 0) 0)) ∷ [])
    (log_on (Dm 0) (operate Read 0 2 ∷ []) ∷ [])

-- the disk serves the second piece
abbrev served : List Event
served = mapped ++ Serve 2 ∷ []

-- how far the bio of a number has come in a state, if both are there
abbrev stage_in : ℕ → Option (State Simple) → Option Stage
stage_in number None = None
stage_in number (Some s) = option_map (λ bio. bio.stage) (bio_of s number)

-- how far the read, bio 1, has come after these events; none where they are no run
abbrev stage_after : List Event → Option Stage
stage_after events = stage_in 1 (reached simple scenario events)

-- what the read has recorded of a sector after these events
abbrev record_after : List Event → ℕ → Option (List ℕ)
record_after events sector = records_of simple scenario events 1 sector

-- before it is judged the read has recorded nothing, not even of the zero line's sector
nothing_before : record_after entered 0 ≡ None
nothing_before = refl

-- once it is judged its buffer has zero bytes for both sectors
buffer_is : stage_after mapped ≡ Some (InFlight false (replicate 512 0 ∷ replicate 512 0 ∷ []))
buffer_is = refl

-- the zero line has answered its sector: zero bytes are recorded
zeroes_recorded : record_after mapped 0 ≡ Some (replicate 512 0)
zeroes_recorded = refl

-- the linear line's sector isn't answered: nothing is recorded
nothing_recorded : record_after mapped 1 ≡ None
nothing_recorded = refl

-- the disk answers with the zero bytes that the buffer has already, so the buffer stays as it was
buffer_stays : stage_after served ≡ stage_after mapped
buffer_stays = refl

-- but now they are recorded
disk_recorded : record_after served 1 ≡ Some (replicate 512 0)
disk_recorded = refl

-- and the first sector's record is still there
zeroes_stay : record_after served 0 ≡ Some (replicate 512 0)
zeroes_stay = refl
