-- The intervals of a flakey line (dm-flakey; that they are together at most 4294967295 seconds is
-- this project's own).
use Rattle.std.specs.Prelude.{ℕ, ◌+◌, ◌<◌, ◌≤◌}
use Rattle.lab_flakey.specs.Features.{greatest_count}

-- some seconds, and not too many, are up or down
abbrev pub IsInterval : ℕ → ℕ → Type 0
IsInterval up down = (0 < up + down) × (up + down ≤ greatest_count)
