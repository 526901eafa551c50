-- Whether bytes are others than were written (this project's own).
use Rattle.std.specs.Prelude.{ℕ, ◌==◌, not, List, [], ◌∷◌, Option, Some, None, Bool}
use Rattle.std.specs.Prelude.{if◌then◌else◌}
use Rattle.std.specs.List.{list_any}
use Rattle.lab_model.specs.LogEffect.{fill_of}
use Rattle.lab_model.specs.Sectors.{Sectors}
use Rattle.lab_next.specs.declared.origin.Origin.{Origin}
use Rattle.lab_next.specs.declared.writer.Writer.{Writer}
use Rattle.lab_findings.specs.declared.deed.Deed.{Deed}
use Rattle.lab_findings.specs.Deeds.{Deeds, deed_of}

-- whether a byte of a sector is another one than this
abbrev pub is_changed : ℕ → List ℕ → Bool
is_changed byte sector = list_any (λ one. not (one == byte)) sector

-- the byte that an operation which is known so has written
abbrev pub byte_by : Origin → Option Deed → ℕ
byte_by origin None = fill_of origin.log origin.line
byte_by origin (Some deed) = if deed.trims then 0 else fill_of origin.log origin.line

-- the byte that was written to a sector: none but zero where nobody wrote
abbrev pub byte_of : Deeds → Option Writer → ℕ
byte_of deeds None = 0
byte_of deeds (Some writer) = byte_by writer.origin (deed_of deeds writer.origin)

-- of some sectors, each with who wrote it, whether a byte of it is another than was written
abbrev pub changed_hits : Deeds → List (Option Writer) → Sectors → List Bool
changed_hits deeds [] sectors = []
changed_hits deeds (got ∷ others) [] = []
changed_hits deeds (got ∷ others) (sector ∷ sectors) =
    is_changed (byte_of deeds got) sector ∷ changed_hits deeds others sectors
