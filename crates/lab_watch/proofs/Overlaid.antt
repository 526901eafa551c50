-- What rows over the first sectors of their numbers say of each sector.
use Rattle.std.proofs.Common.{◌≡◌, ◌∙◌, ap, ap₂, sym, refl, arith, ℕ, ◌+◌, ◌-◌, ◌<◌, ◌≤◌}
use Rattle.std.proofs.Common.{Bor, List, [], ◌∷◌, ◌++◌, Option, None, Some, cond, find, get_or, is_some, length}
use Rattle.std.proofs.Common.{nat_eq, false, option_copied, true}
use Rattle.std.specs.FinMap.{same_map}
use Rattle.std.proofs.lemmas.Bool.Decides.{nat_tests}
use Rattle.lab_watch.specs.Grids.{Grid, cleared, empty, with_writers_from, writer_at, writers_in}
use Rattle.lab_watch.specs.Sheets.{all_within, sheet_has, is_sheet_of, kept_down, laid_over}
use Rattle.lab_watch.specs.Sheets.{of_number, of_others}
use Rattle.lab_watch.specs.Stretches.{sector_is_within}
use Rattle.lab_watch.specs.declared.sheets.Sheet.{Sheet}
use Rattle.lab_next.specs.declared.writer.Writer.{Writer}
use Rattle.lab_watch.proofs.Laid.{get-cleared}
use Rattle.lab_watch.proofs.Places.{places_apart, places_total}
use Rattle.lab_watch.proofs.Rows.{length-part, part-append}
use Rattle.lab_watch.proofs.Sectors.{get-part, get-put, row-part, same-part}

-- a sector under a row has the row's, and another what lies below
pub get-sheet : (sheet : Sheet) (grid : Grid) (number sector : ℕ)
    → writer_at (with_writers_from grid sheet.number 0 sheet.row) number sector
    ≡ cond (sheet_has number sector sheet) (get_or sheet.row sector None)
    (writer_at grid number sector)
get-sheet sheet grid number sector = get-put sheet.row grid sheet.number 0 number sector
    ∙ grind (arith, nat_tests)

-- the rows of a number say the same of its sectors as all do, and nothing of others'
pub get-of : (sheets : List Sheet) (grid : Grid) (number other sector : ℕ)
    → writer_at (laid_over (of_number number sheets) grid) other sector
    ≡ cond (nat_eq other number) (writer_at (laid_over sheets grid) other sector)
    (writer_at grid other sector)
get-of [] grid number other sector = grind (arith, nat_tests)
get-of (sheet ∷ sheets) grid number other sector =
    grind (
      arith,
      nat_tests,
      get-sheet sheet (laid_over (of_number number sheets) grid) other sector,
      get-sheet sheet (laid_over sheets grid) other sector,
      get-of sheets grid number other sector,
    )

-- those of the others say nothing of its sectors, and the same of others' as all do
pub get-others : (sheets : List Sheet) (grid : Grid) (number other sector : ℕ)
    → writer_at (laid_over (of_others number sheets) grid) other sector
    ≡ cond (nat_eq other number) (writer_at grid other sector)
    (writer_at (laid_over sheets grid) other sector)
get-others [] grid number other sector = grind (arith, nat_tests)
get-others (sheet ∷ sheets) grid number other sector =
    grind (
      arith,
      nat_tests,
      get-sheet sheet (laid_over (of_others number sheets) grid) other sector,
      get-sheet sheet (laid_over sheets grid) other sector,
      get-others sheets grid number other sector,
    )

-- over two grids that say the same of a sector, rows say the same of it
pub get-same : (sheets : List Sheet) (grid other : Grid) (number sector : ℕ)
    → writer_at grid number sector ≡ writer_at other number sector
    → writer_at (laid_over sheets grid) number sector
    ≡ writer_at (laid_over sheets other) number sector
get-same [] grid other number sector same = same
get-same (sheet ∷ sheets) grid other number sector same =
    get-sheet sheet (laid_over sheets grid) number sector
    ∙ ap (cond (sheet_has number sector sheet) (get_or sheet.row sector None))
    (get-same sheets grid other number sector same)
    ∙ sym (get-sheet sheet (laid_over sheets other) number sector)

-- behind the rows of a number the grid below says it
pub get-behind : (sheets : List Sheet) (grid : Grid) (number count sector : ℕ)
    → all_within number count sheets ≡ true → count ≤ sector
    → writer_at (laid_over sheets grid) number sector ≡ writer_at grid number sector
get-behind [] grid number count sector all behind = refl
get-behind (sheet ∷ sheets) grid number count sector all behind =
    grind (
      arith,
      nat_tests,
      get-sheet sheet (laid_over sheets grid) number sector,
      get-behind sheets grid number count sector,
    )

-- the latest row with a sector says it
pub get-with : (sheets : List Sheet) (grid : Grid) (number sector : ℕ) (sheet : Sheet)
    → find (sheet_has number sector) sheets ≡ Some sheet
    → get_or sheet.row sector None ≡ writer_at (laid_over sheets grid) number sector
get-with [] grid number sector sheet is = grind arith
get-with (other ∷ sheets) grid number sector sheet is =
    grind (
      arith,
      nat_tests,
      get-sheet other (laid_over sheets grid) number sector,
      get-with sheets grid number sector sheet,
    )

-- and where none has it the grid below does
pub get-without : (sheets : List Sheet) (grid : Grid) (number sector : ℕ)
    → find (sheet_has number sector) sheets ≡ None
    → writer_at grid number sector ≡ writer_at (laid_over sheets grid) number sector
get-without [] grid number sector is = refl
get-without (other ∷ sheets) grid number sector is =
    grind (
      arith,
      nat_tests,
      get-sheet other (laid_over sheets grid) number sector,
      get-without sheets grid number sector,
    )

-- the latest row of a number says its sectors
pub get-latest : (sheets : List Sheet) (grid : Grid) (number sector : ℕ) (sheet : Sheet)
    → find (is_sheet_of number) sheets ≡ Some sheet → sector < length sheet.row
    → get_or sheet.row sector None ≡ writer_at (laid_over sheets grid) number sector
get-latest [] grid number sector sheet is within = grind arith
get-latest (other ∷ sheets) grid number sector sheet is within =
    grind (
      arith,
      nat_tests,
      get-sheet other (laid_over sheets grid) number sector,
      get-latest sheets grid number sector sheet,
    )

-- and where it has none, the grid below does
pub get-none : (sheets : List Sheet) (grid : Grid) (number sector : ℕ)
    → find (is_sheet_of number) sheets ≡ None
    → writer_at grid number sector ≡ writer_at (laid_over sheets grid) number sector
get-none [] grid number sector is = refl
get-none (other ∷ sheets) grid number sector is =
    grind (
      arith,
      nat_tests,
      get-sheet other (laid_over sheets grid) number sector,
      get-none sheets grid number sector,
    )

-- what is kept says of the other sectors of the number what all say
kept-own : (sheets : List Sheet) (grid : Grid) (number first count sector : ℕ)
    → sector_is_within first count sector ≡ false
    → writer_at (kept_down number first count sheets grid) number sector
    ≡ writer_at (laid_over sheets grid) number sector
kept-own sheets grid number first count sector past =
    grind (
      arith,
      nat_tests,
      get-of sheets grid number number sector,
      get-behind sheets grid number count sector,
    )

-- and of others' sectors what the grid below says
kept-others : (sheets : List Sheet) (grid : Grid) (number first count other sector : ℕ)
    → nat_eq other number ≡ false
    → writer_at (kept_down number first count sheets grid) other sector
    ≡ writer_at grid other sector
kept-others sheets grid number first count other sector apart =
    grind (arith, nat_tests, get-of sheets grid number other sector)

-- where the rows of a number are taken away, and it is cleared below, it is cleared
pub cleared-below : (sheets : List Sheet) (grid : Grid) (number first count : ℕ)
    → laid_over (of_others number sheets)
    (cleared (kept_down number first count sheets grid) number first count)
    ≡ cleared (laid_over sheets grid) number first count
cleared-below sheets grid number first count =
    let kept = kept_down number first count sheets grid in
    let below = cleared kept number first count in
    same_map places_total places_apart (laid_over (of_others number sheets) below)
    (cleared (laid_over sheets grid) number first count)
    (λ q. get-others sheets below number q.0 q.1
    ∙ grind (
      arith,
      nat_tests,
      get-cleared count kept number first q.0 q.1,
      kept-own sheets grid number first count q.1,
      kept-others sheets grid number first count q.0 q.1,
      get-same sheets below grid q.0 q.1,
    )
    ∙ sym (get-cleared count (laid_over sheets grid) number first q.0 q.1))

-- the latest row of a number is its part, where it has so many sectors
pub latest-part : (sheets : List Sheet) (grid : Grid) (number count : ℕ) (sheet : Sheet)
    → find (is_sheet_of number) sheets ≡ Some sheet → length sheet.row ≡ count
    → sheet.row ≡ writers_in (laid_over sheets grid) number 0 count
latest-part sheets grid number count sheet is long =
    row-part sheet.row (laid_over sheets grid) number 0
    (λ k within. get-latest sheets grid number k sheet is within
    ∙ ap (writer_at (laid_over sheets grid) number) (omega arith))
    ∙ ap (writers_in (laid_over sheets grid) number 0) long

-- it is the front of a longer part, and the grid below says the rest, where no other is longer
pub front-part : (sheets : List Sheet) (grid : Grid) (number first count : ℕ) (sheet : Sheet)
    → find (is_sheet_of number) sheets ≡ Some sheet → length sheet.row ≡ first → first ≤ count
    → all_within number first sheets ≡ true
    → sheet.row ++ writers_in grid number first (count - first)
    ≡ writers_in (laid_over sheets grid) number 0 count
front-part sheets grid number first count sheet is long short all =
    let whole = laid_over sheets grid in
    let more = count - first in
    let here : first ≡ 0 + first = omega arith in
    let both : first + more ≡ count = omega arith in
    ap₂ (λ front behind. front ++ behind) (latest-part sheets grid number first sheet is long)
    (same-part more grid whole number first
    (λ k within. sym (get-behind sheets grid number first (first + k) all (omega arith)))
    ∙ ap (λ n. writers_in whole number n more) here)
    ∙ sym (part-append whole number 0 first more) ∙ ap (writers_in whole number 0) both

-- where a number has no row, its part is that of the grid below
pub none-part : (sheets : List Sheet) (grid : Grid) (number count : ℕ)
    → find (is_sheet_of number) sheets ≡ None
    → writers_in grid number 0 count ≡ writers_in (laid_over sheets grid) number 0 count
none-part sheets grid number count is =
    same-part count grid (laid_over sheets grid) number 0
    (λ k within. get-none sheets grid number (0 + k) is)

-- where none was found, none is what was found
pub none-copied : (found : Option (Bor Sheet)) → is_some found ≡ false → option_copied found ≡ None
none-copied None none = refl
none-copied (Some sheet) none = cc

-- the rows of a number over its part of the grid below have the part of all
pub rows-part : (sheets : List Sheet) (grid : Grid) (number count : ℕ)
    → writers_in (laid_over (of_number number sheets)
    (with_writers_from empty number 0 (writers_in grid number 0 count))) number 0 count
    ≡ writers_in (laid_over sheets grid) number 0 count
rows-part sheets grid number count =
    let row = writers_in grid number 0 count in
    let own = with_writers_from empty number 0 row in
    same-part count (laid_over (of_number number sheets) own) (laid_over sheets grid) number 0
    (λ k within. grind (
      arith,
      nat_tests,
      get-of sheets own number number (0 + k),
      get-same sheets own grid number (0 + k),
      get-put row empty number 0 number (0 + k),
      length-part grid number 0 count,
      get-part count grid number 0 k within,
    ))

-- what is put behind the rows of a number is put below them
pub put-behind : (sheets : List Sheet) (grid : Grid) (number first : ℕ) (row : List (Option Writer))
    → all_within number first sheets ≡ true
    → laid_over sheets (with_writers_from grid number first row)
    ≡ with_writers_from (laid_over sheets grid) number first row
put-behind sheets grid number first row all =
    let below = with_writers_from grid number first row in
    same_map places_total places_apart (laid_over sheets below)
    (with_writers_from (laid_over sheets grid) number first row)
    (λ q. grind (
      arith,
      nat_tests,
      get-put row grid number first q.0 q.1,
      get-behind sheets below number first q.1,
      get-same sheets below grid q.0 q.1,
    )
    ∙ sym (get-put row (laid_over sheets grid) number first q.0 q.1))

-- where the rows of a number are laid down, what is put on them is put below the others
pub put-below : (sheets : List Sheet) (grid : Grid) (number first : ℕ) (row : List (Option Writer))
    → laid_over (of_others number sheets)
    (with_writers_from (laid_over (of_number number sheets) grid) number first row)
    ≡ with_writers_from (laid_over sheets grid) number first row
put-below sheets grid number first row =
    let down = laid_over (of_number number sheets) grid in
    let below = with_writers_from down number first row in
    same_map places_total places_apart (laid_over (of_others number sheets) below)
    (with_writers_from (laid_over sheets grid) number first row)
    (λ q. get-others sheets below number q.0 q.1
    ∙ grind (
      arith,
      nat_tests,
      get-put row down number first q.0 q.1,
      get-of sheets grid number q.0 q.1,
      get-same sheets below grid q.0 q.1,
    )
    ∙ sym (get-put row (laid_over sheets grid) number first q.0 q.1))
