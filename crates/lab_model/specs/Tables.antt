-- Tables: lines without gaps, each with a target (dmsetup(8), the table format).
use Rattle.std.specs.Prelude.{◌≡◌, ℕ, ◌+◌, ◌-◌, ◌<◌, ◌&&◌, Bool, nat_le, nat_lt, List, [], ◌∷◌, Option, position, map}
use Rattle.lab_sector.specs.declared.request.Kind.{Kind}
use Rattle.lab_sector.specs.declared.request.Kind.TheVariants.{Flush}
use Rattle.lab_sector.specs.declared.span.Span.{Span}
use Rattle.lab_model.specs.declared.table_line.TableLine.{TableLine}
use Rattle.lab_target.specs.Meaning.{Meaning, Shape}

-- a table of targets of a type
abbrev pub Table : Type 0 → Type 0
Table S = List (TableLine S)

-- the size of its device in sectors: those of all lines
abbrev pub size_of : {S : Type 0} → Table S → ℕ
size_of [] = 0
size_of (line ∷ lines) = line.len + size_of lines

-- from this sector on each line starts where the one before ends, and none is empty
abbrev pub HasNoGap : {S : Type 0} → ℕ → Table S → Type 0
HasNoGap start [] = Unit {0}
HasNoGap start (line ∷ lines) =
    (line.start ≡ start) × (0 < line.len) × HasNoGap (start + line.len) lines

-- whether a sector of the device is the line's
abbrev pub has_sector : {S : Type 0} → ℕ → TableLine S → Bool
has_sector sector line = nat_le line.start sector && nat_lt sector (line.start + line.len)

-- the number of the line that has a sector, counted from 0
abbrev pub line_at : {S : Type 0} → Table S → ℕ → Option ℕ
line_at lines sector = position (has_sector sector) lines

-- sectors of the device as the line counts them; a flush's empty piece stays as it is
abbrev pub placed : {S : Type 0} → Kind → TableLine S → Span → Span
placed Flush line span = span
placed _ line span = record { first = span.first - line.start; len = span.len }

-- where the sectors of a request end; a flush has none
abbrev pub end_of : Kind → Span → ℕ
end_of Flush span = 0
end_of _ span = span.first + span.len

-- a line with f of its target
abbrev pub with_target : {S T : Type 0} → (S → T) → TableLine S → TableLine T
with_target f line = record { start = line.start; len = line.len; target = f line.target }

-- a table as no event changes it: each line with its target's shape
abbrev pub image : {S : Type 0} → Meaning S → Table S → Table (Shape S)
image m table = map (with_target m.shape) table

-- a table after it is loaded at a moment
abbrev pub loaded : {S : Type 0} → Meaning S → ℕ → Table S → Table S
loaded m now table = map (with_target (λ t. m.started t now)) table

-- the same lines, each target in its opening state
abbrev pub opened : {S : Type 0} → Meaning S → Table S → Table S
opened m lines = map (with_target (λ t. (m.shape t).opening)) lines
