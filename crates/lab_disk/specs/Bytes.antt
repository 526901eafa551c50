-- The bytes of a sector by what is kept of them (this project's own).
use Rattle.std.specs.Prelude.{ℕ, List, Option, None, Some, replicate}
use Rattle.std.specs.Arc.{arc_value}
use Rattle.lab_disk.specs.declared.sector.Kept.{Kept}
use Rattle.lab_disk.specs.declared.sector.Kept.TheVariants.{Same, Each}

-- 512 times the one byte, or the bytes of its own
abbrev pub bytes_of : Kept → List ℕ
bytes_of (Same byte) = replicate 512 byte
bytes_of (Each bytes) = arc_value bytes

-- the byte that all of them are, where it is kept so
abbrev pub same_in : Kept → Option ℕ
same_in (Same byte) = Some byte
same_in (Each bytes) = None
