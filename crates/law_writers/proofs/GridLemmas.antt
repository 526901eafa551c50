-- Who wrote what, place by place, after some sectors of a grid are set.
use Rattle.lab_model.proofs.Common.{rules, ◌+◌, ◌-◌, ◌&&◌, ◌<◌, ◌∙◌, ◌≡◌, ◌≢◌, ◌≤◌, ◌⊎◌, arith}
use Rattle.lab_model.proofs.Common.{cond, nat_eq, nat_tests, None, Some, suc, zero, ℕ}
use Rattle.lab_next.specs.declared.writer.Writer.{Writer}
use Rattle.lab_watch.specs.Grids.{Grid, cleared, next, set, spread, with_writers_from, writer_at}
use Rattle.lab_watch.specs.Grids.{writer_from, writers_in}
use Rattle.lab_watch.specs.Stretches.{sector_is_within}
use Rattle.lab_watch.proofs.Places.{writer_at-set}

-- a sector among those over which an operation's are spread has its own, and another what it had
pub spread-at : (count : ℕ) (grid : Grid) (number first : ℕ) (writer : Writer) (other sector : ℕ)
    → writer_at (spread grid number first count writer) other sector
    ≡ cond (nat_eq number other && sector_is_within first count sector)
    (Some (writer_from writer (sector - first))) (writer_at grid other sector)
spread-at zero grid number first writer other sector = grind (arith, nat_tests)
spread-at (suc more) grid number first writer other sector =
    spread-at more (set grid number first (Some writer)) number (first + 1) (next writer) other
    sector
    ∙ grind (arith, nat_tests, writer_at-set grid number first (Some writer) (other, sector))

-- a sector among those that are cleared has nobody's, and another what it had
pub cleared-at : (count : ℕ) (grid : Grid) (number first other sector : ℕ)
    → writer_at (cleared grid number first count) other sector
    ≡ cond (nat_eq number other && sector_is_within first count sector) None
    (writer_at grid other sector)
cleared-at zero grid number first other sector = grind (arith, nat_tests)
cleared-at (suc more) grid number first other sector =
    cleared-at more (set grid number first None) number (first + 1) other sector
    ∙ grind (arith, nat_tests, writer_at-set grid number first None (other, sector))

-- a sector among those at which a part of another grid is put has what that part has there, and
-- another what it had
pub put-at : (count : ℕ) (grid from : Grid) (number first disk place other sector : ℕ)
    → writer_at (with_writers_from grid number first
    (writers_in from disk place count)) other sector
    ≡ cond (nat_eq number other && sector_is_within first count sector)
    (writer_at from disk (place + (sector - first))) (writer_at grid other sector)
put-at zero grid from number first disk place other sector = search (rules, writer_at-set)
put-at (suc more) grid from number first disk place other sector =
    search (
      rules,
      writer_at-set,
      put-at more (set grid number first (writer_at from disk place)) from number (first + 1) disk
          (place + 1) other sector,
    )

-- a sector is none of so many from the first on of a number
abbrev pub IsOutside : ℕ → ℕ → ℕ → ℕ → ℕ → Type 0
IsOutside number first count other sector =
    (other ≢ number) ⊎ ((sector < first) ⊎ (first + count ≤ sector))

module _ (grid : Grid) (number first count : ℕ) where
  -- what is put inside
  pub put-in : (from : Grid) (disk place sector : ℕ) → first ≤ sector → sector < first + count
      → writer_at (with_writers_from grid number first
      (writers_in from disk place count)) number sector
      ≡ writer_at from disk (place + (sector - first))
  put-in from disk place sector low high = search (rules, put-at)

-- a sector is one of so many, or none of them
pub inside-or : (number first count other sector : ℕ)
    → ((other ≡ number) × (first ≤ sector) × (sector < first + count))
    ⊎ IsOutside number first count other sector
inside-or number first count other sector = search rules
