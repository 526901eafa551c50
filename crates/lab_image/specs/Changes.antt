-- Bytes that were changed on the way to a disk (this project's own).
use Rattle.std.specs.Prelude.{ℕ, suc, zero, ◌+◌, ◌==◌, ◌&&◌, ◌||◌, Bool, false, not, List, [], ◌∷◌, ◌++◌, filter}
use Rattle.std.specs.Prelude.{if◌then◌else◌, nat_lt}
use Rattle.lab_target.specs.declared.verdict.Mark.{Mark}

-- those of some changed bytes that come before a byte
abbrev pub marks_below : ℕ → List Mark → List Mark
marks_below byte marks = filter (λ mark. nat_lt mark.place byte) marks

-- those that come behind it
abbrev pub marks_behind : ℕ → List Mark → List Mark
marks_behind byte marks = filter (λ mark. nat_lt byte mark.place) marks

-- the changed bytes of a sector with one more, in the order of the bytes; a value that the byte had
-- before is forgotten
abbrev pub with_mark : List Mark → Mark → List Mark
with_mark marks mark = marks_below mark.place marks ++ mark ∷ marks_behind mark.place marks

-- by the number of a disk or of a bio, and by a sector of it: its changed bytes, counted from the
-- sector's first, with the values that they have now
abbrev pub Changes : Type 0
Changes = List ((ℕ × ℕ) × List Mark)

-- whether two places are one
abbrev pub same_place : ℕ × ℕ → ℕ × ℕ → Bool
same_place place other = (place.0 == other.0) && (place.1 == other.1)

-- the changed bytes at a place: none where none is kept
abbrev pub marks_at : Changes → ℕ × ℕ → List Mark
marks_at [] place = []
marks_at (entry ∷ entries) place =
    if same_place place entry.0 then entry.1 else marks_at entries place

-- whether a place is kept
abbrev pub has_place : Changes → ℕ × ℕ → Bool
has_place [] place = false
has_place (entry ∷ entries) place = same_place place entry.0 || has_place entries place

-- whether there are some of so many, or others
abbrev pub some_or : ℕ → Bool → Bool
some_or count others = not (count == 0) || others

-- with these changed bytes at a place
abbrev pub with_marks : Changes → ℕ × ℕ → List Mark → Changes
with_marks [] place [] = []
with_marks [] place (mark ∷ marks) = (place, mark ∷ marks) ∷ []
with_marks (entry ∷ entries) place marks =
    if same_place place entry.0 then (entry.0, marks) ∷ entries
    else entry ∷ with_marks entries place marks

-- with no changed byte in so many sectors of a number, from one on
abbrev pub unmarked : Changes → ℕ → ℕ → ℕ → Changes
unmarked changes number sector zero = changes
unmarked changes number sector (suc more) =
    unmarked (with_marks changes (number, sector) []) number (sector + 1) more

-- with the changed bytes of so many sectors of a number in those of another, from these on
abbrev pub handed : Changes → ℕ → ℕ → ℕ → ℕ → ℕ → Changes
handed changes above place number sector zero = changes
handed changes above place number sector (suc more) = handed
    (with_marks changes (number, sector) (marks_at changes (above, place))) above (place + 1) number
    (sector + 1) more

-- the same, where the first number's are kept elsewhere
abbrev pub taken_over : Changes → ℕ → ℕ → Changes → ℕ → ℕ → ℕ → Changes
taken_over from above place changes number sector zero = changes
taken_over from above place changes number sector (suc more) = taken_over from above (place + 1)
    (with_marks changes (number, sector) (marks_at from (above, place))) number (sector + 1) more
