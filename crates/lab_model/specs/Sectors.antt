-- The bytes of sectors: 512 each (this project's own).
use Rattle.std.specs.Prelude.{ℕ, ◌+◌, ◌/◌, ◌%◌, List, ◌++◌, Option, length, take, drop, replicate, slice_set}
use Rattle.lab_sector.specs.declared.span.Span.{Span}
use Rattle.lab_target.specs.declared.verdict.Mark.{Mark}
use Rattle.lab_target.specs.declared.verdict.Marks.{Marks}
use Rattle.lab_model.specs.Lists.{change}
use Rattle.std.specs.Option.{option_map_or}

-- sectors in order, each the list of its 512 bytes
abbrev pub Sectors : Type 0
Sectors = List (List ℕ)

-- so many sectors of one byte
abbrev pub filled : ℕ → ℕ → Sectors
filled count byte = replicate count (replicate 512 byte)

-- the sectors of a span, in order
abbrev pub part : Sectors → Span → Sectors
part sectors span = take span.len (drop span.first sectors)

-- the sectors with others in place of those from one on
abbrev pub put : Sectors → ℕ → Sectors → Sectors
put sectors first others = take first sectors ++ (others ++ drop (first + length others) sectors)

-- the sectors with a marked byte replaced; its place is counted from the first sector's first byte
abbrev pub marked_by : Option Mark → Sectors → Sectors
marked_by found sectors = option_map_or (λ mark. change sectors (mark.place / 512)
    (λ sector. slice_set sector (mark.place % 512) mark.value)) found sectors

-- the sectors with both marked bytes replaced, the fixed one first
abbrev pub marked : Marks → Sectors → Sectors
marked marks sectors = marked_by marks.random (marked_by marks.fixed sectors)
