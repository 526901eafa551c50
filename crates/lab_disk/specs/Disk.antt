-- A disk as the list of its sectors, each a list of 512 bytes (this project's own).
use Rattle.std.specs.Prelude.{◌≡◌, ℕ, ◌+◌, ◌<◌, ◌++◌, List, Some, length, take, drop, replicate}
use Rattle.std.specs.Prelude.{slice_get}
use Rattle.std.specs.List.{concat}
use Rattle.lab_sector.specs.declared.span.Span.{Span}
use Rattle.lab_sector.specs.Span.{Holds}

-- the sectors of a disk, from the first on
abbrev pub Sectors : Type 0
Sectors = List (List ℕ)

-- a sector has 512 bytes
abbrev pub IsSector : List ℕ → Type 0
IsSector sector = length sector ≡ 512

-- the sector whose bytes are all zero
abbrev pub zero_sector : List ℕ
zero_sector = replicate 512 0

-- each sector of the span is below the size
abbrev pub IsInside : Span → ℕ → Type 0
IsInside span size = (k : ℕ) → Holds span k → k < size

-- the bytes of the span's sectors, in order
abbrev pub bytes_in : Sectors → Span → List ℕ
bytes_in disk span = concat (take span.len (drop span.first disk))

-- the sectors with others in place of those from one on
abbrev pub put : Sectors → ℕ → Sectors → Sectors
put sectors first others = take first sectors ++ (others ++ drop (first + length others) sectors)

-- new has these bytes in the span, and is as old in every other sector
pub record WritesOnly (old new : Sectors) (span : Span) (bytes : List ℕ) : Type 0 where
  pub size : length new ≡ length old
  pub written : bytes_in new span ≡ bytes
  pub elsewhere : (k : ℕ) → ¬ Holds span k → slice_get new k ≡ slice_get old k

-- new has this sector at each one of the span, and is as old in every other sector
pub record Filled (old new : Sectors) (span : Span) (sector : List ℕ) : Type 0 where
  pub size : length new ≡ length old
  pub filled : (k : ℕ) → Holds span k → slice_get new k ≡ Some sector
  pub elsewhere : (k : ℕ) → ¬ Holds span k → slice_get new k ≡ slice_get old k

-- new is zero in each sector of the span, and is as old in every other sector
abbrev pub Zeroed : Sectors → Sectors → Span → Type 0
Zeroed old new span = Filled old new span zero_sector
