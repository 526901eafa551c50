-- How the calls of a reader or a writer are counted (this project's own).
use Rattle.std.specs.Prelude.{◌≡◌, ℕ, ◌+◌, ◌-◌, ◌≤◌, ◌^◌, min, ◌==◌, if◌then◌else◌}
use Rattle.dmlab_run.specs.declared.counted.Counted.{Counted}
use Rattle.dmlab_run.specs.declared.input.InputFault.{InputFault}
use Rattle.dmlab_run.specs.declared.input.InputFault.TheVariants as fault

-- one failure more; the count stays at the greatest u64 once there
abbrev pub counted_up : ℕ → ℕ
counted_up failures = min (failures + 1) (2 ^ 64 - 1)

-- the count after a write that took n bytes: none is a failure
abbrev pub counted_write : ℕ → ℕ → ℕ
counted_write failures n = if n == 0 then counted_up failures else failures

-- the count after an input that was not read for this cause
abbrev pub counted_fault : ℕ → InputFault → ℕ
counted_fault failures fault.NoMemory = failures
counted_fault failures fault.Read = counted_up failures

-- the count with n more; it stays at the greatest u64 once there
abbrev pub counted_more : ℕ → ℕ → ℕ
counted_more count n = min (count + n) (2 ^ 64 - 1)

-- no call is counted yet
abbrev pub IsUncalled : {I : Type 0} → Counted I → Type 0
IsUncalled c = (c.failures ≡ 0) × (c.moved ≡ 0) × (c.none ≡ 0) × (c.late ≡ 0) × (c.bytes ≡ 0)

-- the count of late calls after one more call: a call is late after one that moved no byte, or that
-- failed
abbrev pub counted_late : {I : Type 0} → Counted I → ℕ
counted_late c = if c.none + c.failures == 0 then c.late else counted_up c.late

-- one more call is counted, which moved n bytes (n may be 0)
abbrev pub CountsCall : {I : Type 0} → Counted I → Counted I → ℕ → Type 0
CountsCall old new n = (new.late ≡ counted_late old)
    × (new.bytes ≡ (if n == 0 then old.bytes else counted_more old.bytes n))
    × (new.moved ≡ (if n == 0 then old.moved else counted_up old.moved))
    × (new.none ≡ (if n == 0 then counted_up old.none else old.none))

-- one more call is counted, which failed
abbrev pub CountsFault : {I : Type 0} → Counted I → Counted I → Type 0
CountsFault old new = (new.late ≡ counted_late old) × (new.bytes ≡ old.bytes)
    × (new.moved ≡ old.moved) × (new.none ≡ old.none)

-- at most so many bytes were read; each read gave a byte, except at most one, and no read came after
-- that one
abbrev pub ReadsWithin : {I : Type 0} → ℕ → Counted I → Type 0
ReadsWithin most c = (c.bytes ≤ most) × (c.moved ≤ c.bytes) × (c.none + c.failures ≤ 1)
    × (c.late ≡ 0)

-- each write took a byte, except at most one that failed or took none, and no write came after that
-- one
abbrev pub WritesInOrder : {O : Type 0} → Counted O → Type 0
WritesInOrder c = (c.moved ≤ c.bytes) × (c.none ≤ c.failures) × (c.failures ≤ 1) × (c.late ≡ 0)

-- the calls moved n bytes in all, each of them at least one byte, and no call failed
abbrev pub IsOpen : {I : Type 0} → Counted I → ℕ → Type 0
IsOpen c n = (c.bytes ≡ n) × (c.moved ≤ c.bytes) × (c.none ≡ 0) × (c.failures ≡ 0) × (c.late ≡ 0)
