-- The bios of a run by number, and what is kept of them (this project's own).
use Rattle.std.specs.Prelude.{◌≡◌, ℕ, List, Option, length}
use Rattle.lab_model.specs.Bios.{Bio}
use Rattle.lab_bios.specs.Children.{HasChildren, ParentsUpTo}
use Rattle.lab_bios.specs.Living.{living_of}
use Rattle.lab_bios.specs.Tally.{HasLogs}

-- the bios of a run, and how many more of them need no more memory
pub record BioRow : Type 0 where
  -- by number, counted from 1; none at a number whose bio is answered
  pub items : List (Option Bio)
  pub room : ℕ

-- what is kept of the bios of a run: a count for each living one, how many live, a number that no
-- parent's is above, and the logs that the living ones were made for
pub record IsKept (bios : List (Option Bio)) (counts : List (Option ℕ)) (count highest : ℕ)
    (logs : List ℕ) : Type 0 where
  pub children : HasChildren bios counts
  pub living : count ≡ length (living_of bios)
  pub parents : ParentsUpTo highest bios
  pub tallied : HasLogs bios logs
