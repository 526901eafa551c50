-- What is known of who wrote what (this project's own).
use Rattle.std.specs.Prelude.{Bool, true, refl}
use Rattle.std.specs.Coded.{Coded, code_by, coded×, coded_bool}
use Rattle.lab_watch.specs.declared.kept.Kept.{Kept}
use Rattle.lab_watch.specs.Grids.{Grid, empty, grid_code}

-- who wrote what on the disks and in what reads are answered, and what lines dropped
pub record Known : Type 0 where
  -- what is kept
  pub kept : Kept
  -- by a disk and a sector of it: which sector of which operation was written or trimmed there last;
  -- where reads are kept
  pub disks : Grid
  -- by a read of a log that isn't answered and a sector of it, counted from its first: which sector
  -- of which operation it is answered there; where reads are kept
  pub reads : Grid
  -- by a write or a trim of a log that isn't answered and a sector of it, counted from its first:
  -- that sector of it, where a line dropped it; where drops are kept
  pub drops : Grid

-- all is kept
abbrev pub all_kept : Kept
all_kept = record { reads = true; drops = true }

-- what is kept is stored as the pair of its fields
abbrev pub kept_code : Coded Kept
kept_code = code_by (Bool × Bool) (coded× coded_bool coded_bool)
    (λ kept. (kept.reads, kept.drops))
    (λ pair. record { reads = pair.0; drops = pair.1 }) (λ _. refl)

-- what is known is stored as two pairs
abbrev pub known_code : Coded Known
known_code = code_by ((Kept × Grid) × (Grid × Grid))
    (coded× (coded× kept_code grid_code) (coded× grid_code grid_code))
    (λ known. ((known.kept, known.disks), (known.reads, known.drops)))
    (λ pairs. record {
      kept = pairs.0.0;
      disks = pairs.0.1;
      reads = pairs.1.0;
      drops = pairs.1.1;
    })
    (λ _. refl)

-- before the first event
abbrev pub nothing_known : Kept → Known
nothing_known kept = record { kept = kept; disks = empty; reads = empty; drops = empty }
