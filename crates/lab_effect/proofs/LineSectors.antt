-- The line of a table that has a sector.
use Rattle.lab_model.proofs.Common.{◌≡◌, ℕ, zero, suc, ◌+◌, ◌<◌, ◌≤◌, [], ◌∷◌, Option, Some, None}
use Rattle.lab_model.proofs.Common.{length, get_or, arith, IsSome, position-Some, HasNoGap, Table}
use Rattle.lab_model.proofs.Common.{has_sector, line_at, size_of, second_of_both}
use Rattle.lab_model.specs.declared.table_line.TableLine.{TableLine}
use Rattle.std.proofs.lemmas.Bool.{ltb-true}

module _ {S : Type 0} where
  -- a line ends within the table
  end-within : (start : ℕ) (lines : Table S) (place : ℕ) (d : TableLine S) → HasNoGap start lines
      → place < length lines
      → (get_or lines place d).start + (get_or lines place d).len ≤ start + size_of lines
  end-within start [] place d gap within = absurd (omega arith)
  end-within start (line ∷ lines) zero d gap within = omega (arith, gap.0)
  end-within start (line ∷ lines) (suc place) d gap within =
      omega (arith, end-within (start + line.len) lines place d gap.2 (omega arith))

  -- a sector that some line has is inside the table
  pub some_inside : (lines : Table S) (sector : ℕ) (found : Option ℕ) → HasNoGap 0 lines
      → line_at lines sector ≡ found → IsSome found → sector < size_of lines
  some_inside lines sector None gap is there = absurd (cc)
  some_inside [] sector (Some number) gap is there = absurd (cc)
  some_inside (line ∷ more) sector (Some number) gap is there =
      let found = position-Some (has_sector sector) (line ∷ more) number line is in
      let row = get_or (line ∷ more) number line in
      omega (
        arith,
        ltb-true sector (row.start + row.len) (second_of_both _ _ found.1),
        end-within 0 (line ∷ more) number line gap found.0,
      )
