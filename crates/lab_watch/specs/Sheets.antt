-- Who wrote what, where the first sectors of some numbers are kept as rows (this project's own).
use Rattle.std.specs.Prelude.{ℕ, nat_eq, nat_le, nat_lt, not, List, [], ◌∷◌, Bool, if◌then◌else◌, ◌&&◌, ◌||◌, length}
use Rattle.std.specs.List.{filter, list_all}
use Rattle.lab_watch.specs.Grids.{Grid, with_writers_from}
use Rattle.lab_watch.specs.declared.sheets.Sheet.{Sheet}

-- rows over the first sectors of their numbers, where the latest comes first and lies on top
abbrev pub laid_over : List Sheet → Grid → Grid
laid_over [] grid = grid
laid_over (sheet ∷ sheets) grid =
    with_writers_from (laid_over sheets grid) sheet.number 0 sheet.row

-- whether a row lies over the first sectors of a number
abbrev pub is_sheet_of : ℕ → Sheet → Bool
is_sheet_of number sheet = nat_eq sheet.number number

-- whether it lies over a sector of a number
abbrev pub sheet_has : ℕ → ℕ → Sheet → Bool
sheet_has number sector sheet = nat_eq sheet.number number && nat_lt sector (length sheet.row)

-- whether it lies over no more than so many sectors of a number
abbrev pub is_sheet_within : ℕ → ℕ → Sheet → Bool
is_sheet_within number count sheet =
    not (nat_eq sheet.number number) || nat_le (length sheet.row) count

-- the rows of a number
abbrev pub of_number : ℕ → List Sheet → List Sheet
of_number number sheets = filter (is_sheet_of number) sheets

-- the rows of the others
abbrev pub of_others : ℕ → List Sheet → List Sheet
of_others number sheets = filter (λ sheet. not (is_sheet_of number sheet)) sheets

-- whether the rows of a number lie over no more than so many of its sectors
abbrev pub all_within : ℕ → ℕ → List Sheet → Bool
all_within number count sheets = list_all (is_sheet_within number count) sheets

-- the grid below, with the rows of a number, where they have others than so many sectors from the
-- first on
abbrev pub kept_down : ℕ → ℕ → ℕ → List Sheet → Grid → Grid
kept_down number first count sheets grid = if nat_lt 0 first || not (all_within number count sheets)
    then laid_over (of_number number sheets) grid else grid
