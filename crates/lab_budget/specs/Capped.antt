-- Numbers that are told up to the limit (this project's own).
use Rattle.std.specs.Prelude.{ℕ, ◌+◌, min}
use Rattle.lab_table.specs.declared.scenario.TheConstants.{LIMIT}

-- the number, or one more than the limit where it is more than the limit
abbrev pub capped : ℕ → ℕ
capped n = min n (LIMIT + 1)
