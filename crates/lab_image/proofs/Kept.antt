-- The changed bytes that a map has, as a list.
use Rattle.lab_model.proofs.Common.{rules, ◌≡◌, ℕ, true, false, List, [], ◌∷◌, Vec, Global}
use Rattle.lab_model.proofs.Common.{is_some, length, lookup, map, refl}
use Rattle.std.specs.Option.{option_map_or}
use Rattle.indexmap.specs.IndexMap.{insert_entry}
use Rattle.lab_target.specs.declared.verdict.Mark.{Mark}
use Rattle.lab_image.specs.Changes.{Changes, has_place, marks_at, same_place, some_or, with_marks}

-- what a map has, as the list
abbrev pub kept : List ((ℕ × ℕ) × Vec Mark Global) → Changes
kept entries = map (λ entry. (entry.0, entry.1.items)) entries

-- what is found at a place is what the list has there
pub found-marks : (entries : List ((ℕ × ℕ) × Vec Mark Global)) (place : ℕ × ℕ)
    → option_map_or (λ marks. marks.items) (lookup (same_place place) entries) []
    ≡ marks_at (kept entries) place
found-marks [] place = refl
found-marks (entry ∷ entries) place = search (rules, found-marks entries place)

-- it is found where the list has the place
pub found-place : (entries : List ((ℕ × ℕ) × Vec Mark Global)) (place : ℕ × ℕ)
    → is_some (lookup (same_place place) entries) ≡ has_place (kept entries) place
found-place [] place = refl
found-place (entry ∷ entries) place = search (rules, found-place entries place)

-- behind no entry some marks are one
first-marks : (place : ℕ × ℕ) (marks : List Mark) → some_or (length marks) false ≡ true
    → (place, marks) ∷ [] ≡ with_marks [] place marks
first-marks place [] some = search rules
first-marks place (mark ∷ marks) some = refl

-- a map with other marks at a place, of which some are there or were kept, is the list with them
pub put-marks : (entries : List ((ℕ × ℕ) × Vec Mark Global)) (place : ℕ × ℕ)
    (marks : Vec Mark Global)
    → some_or (length marks.items) (has_place (kept entries) place) ≡ true
    → kept (insert_entry same_place entries place marks)
    ≡ with_marks (kept entries) place marks.items
put-marks [] place marks some = first-marks place marks.items some
put-marks (entry ∷ entries) place marks some =
    search (rules, put-marks entries place marks)

-- where none are there or were kept, it is the same
pub keep-marks : (changes : Changes) (place : ℕ × ℕ) (marks : List Mark)
    → some_or (length marks) (has_place changes place) ≡ false
    → changes ≡ with_marks changes place marks
keep-marks [] place [] none = refl
keep-marks [] place (mark ∷ marks) none = search rules
keep-marks (entry ∷ entries) place marks none =
    search (rules, keep-marks entries place marks)
