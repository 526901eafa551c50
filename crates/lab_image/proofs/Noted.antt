-- Where nobody stands, no changed byte is kept.
use Rattle.lab_model.proofs.Common.{rules, ◌≡◌, ◌∙◌, ℕ, suc, zero, ◌+◌, Bool, true, false, cond}
use Rattle.lab_model.proofs.Common.{List, Option, Some, ap, is_some, length, refl, sym}
use Rattle.lab_target.specs.declared.verdict.Mark.{Mark}
use Rattle.lab_next.specs.declared.writer.Writer.{Writer}
use Rattle.lab_watch.specs.Grids.{Grid, spread, writer_at, writers_in}
use Rattle.lab_watch.proofs.Places.{writer_at-set}
use Rattle.lab_watch.proofs.Places as places
use Rattle.lab_image.specs.Changes.{Changes, with_marks}
use Rattle.lab_image.specs.Places.{IsNoted, ShowsKept}
use Rattle.lab_image.proofs.Runs.{kept-elsewhere}

-- so who stands at some sectors shows where none is kept
pub noted-shows : (changes : Changes) (grid : Grid) (number first count : ℕ) → IsNoted changes grid
    → ShowsKept changes number first (writers_in grid number first count)
noted-shows changes grid number first zero noted = tt
noted-shows changes grid number first (suc count) noted =
    (noted number first, noted-shows changes grid number (first + 1) count noted)

-- there are as many as sectors
pub length-writers_in : (grid : Grid) (number first count : ℕ)
    → length (writers_in grid number first count) ≡ count
length-writers_in grid number first zero = refl
length-writers_in grid number first (suc count) =
    ap suc (length-writers_in grid number (first + 1) count)

-- somebody at one place more
at-another : (same : Bool) (writer : Writer) (got : Option Writer)
    → is_some (cond same (Some writer) got) ≡ false → (same ≡ false) × (is_some got ≡ false)
at-another true writer got nobody = search rules
at-another false writer got nobody = (refl, nobody)

module _ (changes : Changes) (grid : Grid) (number sector : ℕ) (writer : Writer)
    (noted : IsNoted changes grid) where
  -- with somebody at a place, nobody is at another place where nobody was
  nobody-there : (other at : ℕ)
      → is_some (writer_at (spread grid number sector 1 writer) other at) ≡ false
      → (places.same_place (number, sector) (other, at) ≡ false)
      × (is_some (writer_at grid other at) ≡ false)
  nobody-there other at nobody =
      at-another (places.same_place (number, sector) (other, at)) writer (writer_at grid other at)
      (ap is_some (sym (writer_at-set grid number sector (Some writer) (other, at))) ∙ nobody)

  -- so it is as before
  pub noted-more : IsNoted changes (spread grid number sector 1 writer)
  noted-more other at nobody = noted other at (nobody-there other at nobody).1

  -- and changed bytes may be kept there
  pub noted-with : (marks : List Mark)
      → IsNoted (with_marks changes (number, sector) marks) (spread grid number sector 1 writer)
  noted-with marks other at nobody =
      let there = nobody-there other at nobody in
      kept-elsewhere changes (number, sector) (other, at) marks (search (rules, there.0))
      ∙ noted other at there.1
