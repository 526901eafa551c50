-- What one sector of a row, of a part and of a grid is.
use Rattle.std.proofs.Common.{◌≡◌, ◌∙◌, ap, sym, refl, arith, ℕ, suc, zero, ◌+◌, ◌-◌, ◌<◌, ◌≤◌}
use Rattle.std.proofs.Common.{List, [], ◌∷◌, ◌++◌, Option, None, Some, ap₂, cond, get_or, length}
use Rattle.std.proofs.Common.{nat_eq, ◌&&◌, option_map}
use Rattle.std.proofs.lemmas.Bool.Decides.{nat_tests}
use Rattle.lab_watch.specs.Grids.{Grid, next, set, side_by_side, with_writers_from, writer_at}
use Rattle.lab_watch.specs.Grids.{writer_from, writers_in}
use Rattle.lab_watch.specs.Stretches.{sector_is_within}
use Rattle.lab_next.specs.declared.writer.Writer.{Writer}
use Rattle.lab_watch.proofs.Places.{writer_at-set}

-- a sector of a run is so far behind its first
pub in-run : (count : ℕ) (writer : Option Writer) (rest : List (Option Writer)) (k : ℕ) → k < count
    → option_map (λ first. writer_from first k) writer
    ≡ get_or (side_by_side count writer ++ rest) k None
in-run zero writer rest k within = absurd (omega arith)
in-run (suc more) None rest zero within = refl
in-run (suc more) None rest (suc k) within = in-run more None rest k (omega arith)
in-run (suc more) (Some writer) rest zero within =
    ap (λ sector. Some (record writer { sector = sector })) (omega arith)
in-run (suc more) (Some writer) rest (suc k) within =
    let further : writer.sector + suc k ≡ writer.sector + 1 + k = omega arith in
    ap (λ sector. Some (record writer { sector = sector })) further
    ∙ in-run more (Some (next writer)) rest k (omega arith)

-- and one behind it is one of the others
pub behind-run : (count : ℕ) (writer : Option Writer) (rest : List (Option Writer)) (k : ℕ)
    → count ≤ k → get_or rest (k - count) None ≡ get_or (side_by_side count writer ++ rest) k None
behind-run zero writer rest k past = ap (λ n. get_or rest n None) (omega arith)
behind-run (suc more) writer rest zero past = absurd (omega arith)
behind-run (suc more) None rest (suc k) past =
    ap (λ n. get_or rest n None) (omega arith) ∙ behind-run more None rest k (omega arith)
behind-run (suc more) (Some writer) rest (suc k) past =
    ap (λ n. get_or rest n None) (omega arith)
    ∙ behind-run more (Some (next writer)) rest k (omega arith)

-- the first of a row
at-first : (writer : Option Writer) (row : List (Option Writer)) (n : ℕ) → n ≡ 0
    → get_or (writer ∷ row) n None ≡ writer
at-first writer row n is = ap (λ k. get_or (writer ∷ row) k None) is

-- and the others
at-next : (writer : Option Writer) (row : List (Option Writer)) (first sector : ℕ) → first < sector
    → get_or (writer ∷ row) (sector - first) None ≡ get_or row (sector - (first + 1)) None
at-next writer row first sector behind =
    let further : sector - first ≡ suc (sector - (first + 1)) = omega arith in
    ap (λ k. get_or (writer ∷ row) k None) further

-- a sector among those at which a row is put has the row's, and another what it had
pub get-put : (row : List (Option Writer)) (grid : Grid) (number first other sector : ℕ)
    → writer_at (with_writers_from grid number first row) other sector
    ≡ cond (nat_eq number other && sector_is_within first (length row) sector)
    (get_or row (sector - first) None) (writer_at grid other sector)
get-put [] grid number first other sector = grind (arith, nat_tests)
get-put (writer ∷ row) grid number first other sector =
    get-put row (set grid number first writer) number (first + 1) other sector
    ∙ grind (
      arith,
      nat_tests,
      writer_at-set grid number first writer (other, sector),
      at-first writer row (sector - first),
      at-next writer row first sector,
    )

-- a sector of a part is the grid's
pub get-part : (count : ℕ) (grid : Grid) (number first k : ℕ) → k < count
    → get_or (writers_in grid number first count) k None ≡ writer_at grid number (first + k)
get-part zero grid number first k within = absurd (omega arith)
get-part (suc more) grid number first zero within = ap (writer_at grid number) (omega arith)
get-part (suc more) grid number first (suc k) within =
    get-part more grid number (first + 1) k (omega arith)
    ∙ ap (writer_at grid number) (omega arith)

-- a row whose sectors are a grid's is its part
pub row-part : (row : List (Option Writer)) (grid : Grid) (number first : ℕ)
    → ((k : ℕ) → k < length row → get_or row k None ≡ writer_at grid number (first + k))
    → row ≡ writers_in grid number first (length row)
row-part [] grid number first same = refl
row-part (writer ∷ row) grid number first same =
    ap₂ (λ one others. one ∷ others)
    (same 0 (omega arith) ∙ ap (writer_at grid number) (omega arith))
    (row-part row grid number (first + 1)
    (λ k within. same (suc k) (omega arith) ∙ ap (writer_at grid number) (omega arith)))

-- two grids with the same sectors have the same part
pub same-part : (count : ℕ) (grid other : Grid) (number first : ℕ)
    → ((k : ℕ) → k < count → writer_at grid number (first + k) ≡ writer_at other number (first + k))
    → writers_in grid number first count ≡ writers_in other number first count
same-part zero grid other number first same = refl
same-part (suc more) grid other number first same =
    let here : first + 0 ≡ first = omega arith in
    ap₂ (λ one others. one ∷ others)
    (ap (writer_at grid number) (sym here) ∙ same 0 (omega arith) ∙ ap (writer_at other number) here)
    (same-part more grid other number (first + 1) (λ k within.
    let further : first + 1 + k ≡ first + suc k = omega arith in
    ap (writer_at grid number) further ∙ same (suc k) (omega arith)
    ∙ ap (writer_at other number) (sym further)))
