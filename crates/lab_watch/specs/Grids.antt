-- Who wrote what stands at each sector of several disks or bios (this project's own).
use Rattle.std.specs.Prelude.{ℕ, suc, zero, ◌≡◌, ◌+◌, List, [], ◌∷◌, ◌++◌, Option, Some, None}
use Rattle.std.specs.Prelude.{Bool, refl}
use Rattle.std.specs.List.{list_any}
use Rattle.std.specs.Option.{is_some}
use Rattle.std.specs.declared.cmp.Ordering.{Ordering}
use Rattle.std.specs.Ordering.{nat_cmp, ordering_then}
use Rattle.std.specs.Coded.{Coded, code_by, coded×, coded_list, coded_option, coded_ℕ}
use Rattle.std.specs.FinMap as map
use Rattle.lab_watch.specs.declared.row.Run.{Run}
use Rattle.lab_next.specs.declared.writer.Writer.{Writer}

-- places by the number of a disk or of a bio, and by a sector of it
abbrev pub place_cmp : ℕ × ℕ → ℕ × ℕ → Ordering
place_cmp a b = ordering_then (nat_cmp a.0 b.0) (nat_cmp a.1 b.1)

-- by the number of a disk or of a bio, and by a sector of it: who wrote what stands there
abbrev pub Grid : Type 0
Grid = map.FinMap place_cmp Writer

-- a sector of an operation is stored as the triple of its numbers
abbrev pub writer_code : Coded Writer
writer_code = code_by (ℕ × (ℕ × ℕ)) (coded× coded_ℕ (coded× coded_ℕ coded_ℕ))
    (λ writer. (writer.origin.log, (writer.origin.line, writer.sector)))
    (λ three. record { origin = record { log = three.0; line = three.1.0 }; sector = three.1.1 })
    (λ _. refl)

-- by each place
abbrev pub grid_code : Coded Grid
grid_code = map.code (coded× coded_ℕ coded_ℕ) writer_code

-- one sector after another
abbrev pub row_code : Coded (List (Option Writer))
row_code = coded_list (coded_option writer_code)

-- nobody wrote anything
abbrev pub empty : Grid
empty = map.empty

-- who wrote what stands at one sector
abbrev pub writer_at : Grid → ℕ → ℕ → Option Writer
writer_at grid number sector = map.get grid (number, sector)

-- another writer, or none, at one sector
abbrev pub set : Grid → ℕ → ℕ → Option Writer → Grid
set grid number sector None = map.remove grid (number, sector)
set grid number sector (Some writer) = map.insert grid (number, sector) writer

-- the same operation's next sector
abbrev pub next : Writer → Writer
next writer = record { origin = writer.origin; sector = writer.sector + 1 }

-- the same operation's sector that comes so far behind
abbrev pub writer_from : Writer → ℕ → Writer
writer_from writer more = record { origin = writer.origin; sector = writer.sector + more }

-- an operation's sectors, from this one on, at so many sectors from the first on
abbrev pub spread : Grid → ℕ → ℕ → ℕ → Writer → Grid
spread grid number first zero writer = grid
spread grid number first (suc more) writer =
    spread (set grid number first (Some writer)) number (first + 1) more (next writer)

-- nobody's at so many sectors from the first on
abbrev pub cleared : Grid → ℕ → ℕ → ℕ → Grid
cleared grid number first zero = grid
cleared grid number first (suc more) =
    cleared (set grid number first None) number (first + 1) more

-- these writers at the sectors from the first on
abbrev pub with_writers_from : Grid → ℕ → ℕ → List (Option Writer) → Grid
with_writers_from grid number first [] = grid
with_writers_from grid number first (writer ∷ writers) =
    with_writers_from (set grid number first writer) number (first + 1) writers

-- the writers of so many sectors from the first on, in order
abbrev pub writers_in : Grid → ℕ → ℕ → ℕ → List (Option Writer)
writers_in grid number first zero = []
writers_in grid number first (suc more) =
    writer_at grid number first ∷ writers_in grid number (first + 1) more

-- whether some sector has a writer
abbrev pub has_written : List (Option Writer) → Bool
has_written row = list_any is_some row

-- so many sectors side by side: nobody's, or an operation's sectors from this one on
abbrev pub side_by_side : ℕ → Option Writer → List (Option Writer)
side_by_side zero writer = []
side_by_side (suc more) None = None ∷ side_by_side more None
side_by_side (suc more) (Some writer) = Some writer ∷ side_by_side more (Some (next writer))

-- the sectors of some runs, in order
abbrev pub spelled_writers : List Run → List (Option Writer)
spelled_writers [] = []
spelled_writers (run ∷ runs) = side_by_side run.count run.writer ++ spelled_writers runs

-- a run has the sectors of two, one behind the other
pub record Joins (run other joined : Run) : Type 0 where
  pub count : joined.count ≡ run.count + other.count
  pub sectors : side_by_side joined.count joined.writer
      ≡ side_by_side run.count run.writer ++ side_by_side other.count other.writer
