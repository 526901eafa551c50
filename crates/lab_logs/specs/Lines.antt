-- A log that takes a line (fio's manual, trace file format version 2).
use Rattle.std.specs.Prelude.{◌≡◌, ℕ, ◌+◌, ◌-◌, ◌<◌, ◌^◌, List, Some, length, take}
use Rattle.lab_model.specs.Lists.{numbered}
use Rattle.lab_model.specs.State.{LogState}

-- the log of a number can take a line more, and its moment can be so much later
abbrev pub CanTake : List LogState → ℕ → ℕ → Type 0
CanTake logs number time = (log : LogState) → numbered logs number ≡ Some log
    → (log.taken + 1 < 2 ^ 64) × (log.moment + time < 2 ^ 64)

-- a log without its last answer
abbrev pub unanswered : LogState → LogState
unanswered log = record log { answers = take (length log.answers - 1) log.answers }
