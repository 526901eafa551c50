-- Where changed bytes may be kept (this project's own).
use Rattle.std.specs.Prelude.{◌≡◌, ℕ, ◌+◌, false, List, [], ◌∷◌, Option}
use Rattle.std.specs.Option.{is_some}
use Rattle.lab_next.specs.declared.writer.Writer.{Writer}
use Rattle.lab_watch.specs.Grids.{Grid, writer_at}
use Rattle.lab_image.specs.Changes.{Changes, has_place}

-- where nobody stands, no changed byte is kept
abbrev pub IsNoted : Changes → Grid → Type 0
IsNoted changes grid = (number sector : ℕ) → is_some (writer_at grid number sector) ≡ false
    → has_place changes (number, sector) ≡ false

-- the same of sectors of a number, from one on
abbrev pub ShowsKept : Changes → ℕ → ℕ → List (Option Writer) → Type 0
ShowsKept changes number first [] = Unit {0}
ShowsKept changes number first (one ∷ row) =
    (is_some one ≡ false → has_place changes (number, first) ≡ false)
    × ShowsKept changes number (first + 1) row
