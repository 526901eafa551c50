-- The sectors of a bio, if it lives, and the bytes of its answer that are changed (this project's own).
use Rattle.std.specs.Prelude.{ℕ, ◌-◌, Option, Some, None}
use Rattle.lab_sector.specs.declared.request.Kind.{Kind}
use Rattle.lab_sector.specs.declared.request.Kind.TheVariants.{Read}
use Rattle.lab_target.specs.declared.verdict.Marks.{Marks}
use Rattle.lab_target.specs.Types.{no_marks}
use Rattle.lab_model.specs.declared.piece.Piece.{Piece}
use Rattle.lab_model.specs.Bios.{Bio}

-- the number of a bio's sectors
abbrev pub sectors_in : Option Bio → ℕ
sectors_in None = 0
sectors_in (Some bio) = bio.span.len

-- the first sector of a bio
abbrev pub first_sector_of : Option Bio → ℕ
first_sector_of None = 0
first_sector_of (Some bio) = bio.span.first

-- how many sectors behind the first one of a bio its piece begins
abbrev pub place_in : Piece → Option Bio → ℕ
place_in piece bio = piece.span.first - first_sector_of bio

-- of these marks those that change an answer: a read's
abbrev pub marks_if_read : Kind → Marks → Marks
marks_if_read Read marks = marks
marks_if_read _ marks = no_marks

-- the bytes that a bio's answer changes, counted from its first
abbrev pub answer_marks : Bio → Marks
answer_marks bio = marks_if_read bio.kind bio.marks
