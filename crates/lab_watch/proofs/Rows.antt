-- The sectors of a row, run by run.
use Rattle.lab_model.proofs.Common.{◌≡◌, ◌∙◌, ℕ, suc, zero, ◌+◌, ◌<◌, ◌||◌, List, [], ◌∷◌}
use Rattle.lab_model.proofs.Common.{Option, None, Some, Bool, true, false, refl, ap, ap₂}
use Rattle.lab_model.proofs.Common.{list_any, list_any-append, AllByRecursion, or-false, length}
use Rattle.lab_model.proofs.Common.{◌++◌, arith, length-append}
use Rattle.lab_watch.specs.declared.row.Run.{Run}
use Rattle.lab_next.specs.declared.writer.Writer.{Writer}
use Rattle.lab_watch.specs.Grids.{Grid, next, side_by_side, spelled_writers, writer_at, writers_in}

-- each run has a sector
abbrev pub Filled : List Run → Type 0
Filled = AllByRecursion (λ run. 0 < run.count)

-- asked twice is asked once
or-same : (b : Bool) → (b || b) ≡ b
or-same true = refl
or-same false = refl

module _ (asked : Option Writer → Bool)
    (same : (writer : Writer) → asked (Some (next writer)) ≡ asked (Some writer)) where
  -- what is asked alike of all sectors of an operation is true of some sector of a run where it is
  -- true of the first
  any-side : (more : ℕ) (writer : Option Writer)
      → list_any asked (side_by_side (suc more) writer) ≡ asked writer
  any-side zero None = or-false (asked None)
  any-side zero (Some writer) = or-false (asked (Some writer))
  any-side (suc more) None =
      ap (λ others. asked None || others) (any-side more None) ∙ or-same (asked None)
  any-side (suc more) (Some writer) = ap (λ others. asked (Some writer) || others)
      (any-side more (Some (next writer)) ∙ same writer) ∙ or-same (asked (Some writer))

  -- so it is of a run that has a sector
  any-run : (count : ℕ) (writer : Option Writer) → 0 < count
      → list_any asked (side_by_side count writer) ≡ asked writer
  any-run zero writer some = elim some [ ]
  any-run (suc more) writer some = any-side more writer

  -- and of some sector of a row where it is true of the first of some run
  pub any-spelled : (runs : List Run) → Filled runs
      → list_any asked (spelled_writers runs) ≡ list_any (λ run. asked run.writer) runs
  any-spelled [] filled = refl
  any-spelled (run ∷ runs) filled =
      list_any-append asked (side_by_side run.count run.writer) (spelled_writers runs)
      ∙ ap₂ (λ a b. a || b) (any-run run.count run.writer filled.0) (any-spelled runs filled.1)

-- a run has as many sectors as it counts
length-side : (count : ℕ) (writer : Option Writer) → length (side_by_side count writer) ≡ count
length-side zero writer = refl
length-side (suc more) None = ap suc (length-side more None)
length-side (suc more) (Some writer) = ap suc (length-side more (Some (next writer)))

-- and the runs behind it have the others
pub length-spelled : (run : Run) (runs : List Run)
    → length (spelled_writers (run ∷ runs)) ≡ run.count + length (spelled_writers runs)
length-spelled run runs = length-append (side_by_side run.count run.writer) (spelled_writers runs)
    ∙ ap (λ n. n + length (spelled_writers runs)) (length-side run.count run.writer)

-- a part has as many sectors as are asked for
pub length-part : (grid : Grid) (number first count : ℕ)
    → length (writers_in grid number first count) ≡ count
length-part grid number first zero = refl
length-part grid number first (suc more) = ap suc (length-part grid number (first + 1) more)

-- a part is a shorter part and what stands behind that one
pub part-append : (grid : Grid) (number first count more : ℕ)
    → writers_in grid number first (count + more)
    ≡ writers_in grid number first count ++ writers_in grid number (first + count) more
part-append grid number first zero more =
    let here : first ≡ first + 0 = omega arith in
    let all : 0 + more ≡ more = omega arith in
    ap₂ (writers_in grid number) here all
part-append grid number first (suc count) more =
    let all : suc count + more ≡ suc (count + more) = omega arith in
    let behind : first + 1 + count ≡ first + suc count = omega arith in
    ap (writers_in grid number first) all
    ∙ ap (λ rest. writer_at grid number first ∷ rest) (part-append grid number (first + 1) count more
    ∙ ap (λ n. writers_in grid number (first + 1) count ++ writers_in grid number n more) behind)
