-- The claims of an operation, run by run of its voids.
use Rattle.lab_model.proofs.Common.{◌≡◌, ◌∙◌, ℕ, suc, zero, ◌+◌, List, [], ◌∷◌, ◌++◌, Option, None, Some, refl}
use Rattle.lab_model.proofs.Common.{ap, ap₂, sym, arith, add-zero, append_assoc, length, is_some, if◌then◌else◌}
use Rattle.lab_next.specs.declared.writer.Writer.{Writer}
use Rattle.lab_watch.specs.declared.row.Run.{Run}
use Rattle.std.specs.FinMap.{get-empty}
use Rattle.lab_watch.specs.Grids.{Grid, empty, next, place_cmp, side_by_side, spelled_writers}
use Rattle.lab_watch.specs.Grids.{writer_from, writers_in}
use Rattle.lab_findings.specs.Settled.{claims_over}

-- the claim to a sector
abbrev pub claim_over : Writer → Option Writer → Option Writer
claim_over writer void = if is_some void then None else Some writer

-- the claims of a run, and those behind it
pub claims-run : (count : ℕ) (writer : Writer) (void : Option Writer) (rest : List (Option Writer))
    → claims_over writer (side_by_side count void ++ rest)
    ≡ side_by_side count (claim_over writer void) ++ claims_over (writer_from writer count) rest
claims-run zero writer void rest = ap (λ n. claims_over (record writer { sector = n }) rest)
    (sym (add-zero writer.sector))
claims-run (suc more) writer None rest = ap (λ others. Some writer ∷ others)
    (claims-run more (next writer) None rest
    ∙ ap (λ n. side_by_side more (Some (next writer)) ++ claims_over (record writer { sector = n }) rest)
    (behind writer.sector more)) where
      behind : (n more : ℕ) → n + 1 + more ≡ n + suc more
      behind n more = omega arith
claims-run (suc more) writer (Some void) rest = ap (λ others. None ∷ others)
    (claims-run more (next writer) (Some (next void)) rest
    ∙ ap (λ n. side_by_side more None ++ claims_over (record writer { sector = n }) rest)
    (behind writer.sector more)) where
      behind : (n more : ℕ) → n + 1 + more ≡ n + suc more
      behind n more = omega arith

-- there are as many as sectors
pub length-claims : (writer : Writer) (voids : List (Option Writer))
    → length (claims_over writer voids) ≡ length voids
length-claims writer [] = refl
length-claims writer (void ∷ voids) = ap suc (length-claims (next writer) voids)

-- with those of a run, and of the runs that are left, the same whole is made
pub claims-step : (writer : Writer) (run : Run) (runs : List Run) (before after whole : List (Option Writer))
    → after ≡ before ++ side_by_side run.count (claim_over writer run.writer)
    → before ++ claims_over writer (spelled_writers (run ∷ runs)) ≡ whole
    → after ++ claims_over (writer_from writer run.count) (spelled_writers runs) ≡ whole
claims-step writer run runs before after whole one-is so_far =
    let rest = claims_over (writer_from writer run.count) (spelled_writers runs) in
    let here = side_by_side run.count (claim_over writer run.writer) in
    ap (λ row. row ++ rest) one-is ∙ append_assoc before here rest
    ∙ ap (λ row. before ++ row)
    (sym (claims-run run.count writer run.writer (spelled_writers runs)))
    ∙ so_far

-- where no sector of any operation is void, all are claimed
all-empty : (count : ℕ) (writer : Writer) (number first : ℕ)
    → claims_over writer (writers_in empty number first count) ≡ side_by_side count (Some writer)
all-empty zero writer number first = refl
all-empty (suc more) writer number first =
    ap₂ (λ void others. claim_over writer void ∷ others) (get-empty place_cmp (number, first))
    (all-empty more (next writer) number (first + 1))

pub all-claimed : (grid : Grid) (count : ℕ) (writer : Writer) (number first : ℕ) → grid ≡ empty
    → claims_over writer (writers_in grid number first count) ≡ side_by_side count (Some writer)
all-claimed grid count writer number first is =
    ap (λ g. claims_over writer (writers_in g number first count)) is
    ∙ all-empty count writer number first
