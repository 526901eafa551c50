-- Spans as sets of sectors (this project's own).
use Rattle.std.specs.Prelude.{ℕ, ◌+◌, ◌≤◌, ◌<◌}
use Rattle.lab_sector.specs.declared.span.Span.{Span}

-- sector k is in the span
abbrev pub Holds : Span → ℕ → Type 0
Holds span k = (span.first ≤ k) × (k < span.first + span.len)

-- the greatest sector that a table or a message may name, and the greatest number of sectors of a
-- table's line
abbrev pub greatest_sector : ℕ
greatest_sector = 1099511627776
