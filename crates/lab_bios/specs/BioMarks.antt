-- The marks of a bio, whose places and values are kept apart (this project's own).
use Rattle.std.specs.Prelude.{ℕ, Option, Some, None}
use Rattle.lab_target.specs.declared.verdict.Mark.{Mark}
use Rattle.lab_target.specs.declared.verdict.Marks.{Marks}
use Rattle.lab_bios.specs.declared.bio_marks.MarkPlaces.{MarkPlaces}
use Rattle.lab_bios.specs.declared.bio_marks.MarkValues.{MarkValues}

-- a mark at a place, if there is a value for it
abbrev pub mark_of : ℕ → Option ℕ → Option Mark
mark_of place None = None
mark_of place (Some value) = Some (record { place = place; value = value })

-- the value of a mark, if there is one
abbrev pub value_of : Option Mark → Option ℕ
value_of None = None
value_of (Some mark) = Some mark.value

-- the values of marks
abbrev pub values_of : Marks → MarkValues
values_of marks = record { fixed = value_of marks.fixed; random = value_of marks.random }

-- the marks of these values at these places
abbrev pub marks_of : MarkValues → MarkPlaces → Marks
marks_of values places = record {
  fixed = mark_of places.fixed values.fixed;
  random = mark_of places.random values.random;
}
