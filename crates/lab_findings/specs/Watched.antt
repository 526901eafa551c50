-- What is watched of a run, so that what is wrong with an answer is known (this project's own).
use Rattle.std.specs.Prelude.{ℕ, Bool, ◌||◌, refl}
use Rattle.std.specs.Coded.{Coded, code_by, coded×, coded_bool}
use Rattle.lab_sector.specs.declared.device.DevNo.{DevNo}
use Rattle.lab_sector.specs.declared.device.DevNo.TheVariants.{Ram, Dm}
use Rattle.std.specs.Prelude.{◌*◌, ◌+◌}
use Rattle.lab_watch.specs.declared.kept.Kept.{Kept}
use Rattle.lab_watch.specs.Grids.{Grid, empty, grid_code}
use Rattle.lab_watch.specs.Known.{Known, known_code, nothing_known}
use Rattle.lab_findings.specs.declared.sought.Sought.{Sought}
use Rattle.lab_findings.specs.Culprits.{Culprits, culprits_code, no_culprits}
use Rattle.lab_findings.specs.Deeds.{Deeds, deeds_code, no_deeds}

-- a device as the number of a grid: disks have the even numbers, mapped devices the odd ones
abbrev pub grid_number : DevNo → ℕ
grid_number (Ram number) = number * 2
grid_number (Dm number) = number * 2 + 1

-- as many sectors as a device has at most: 64 lines of 1,099,511,627,776
unfoldable pub device_reach : ℕ
device_reach = 70368744177664

-- what is watched, as far as it is needed for what is asked for
pub record Watched : Type 0 where
  -- what is asked for
  pub sought : Sought
  -- who wrote what stands on the disks and what reads are answered, and what lines dropped
  pub writers : Known
  -- what is known of the operations that were issued
  pub deeds : Deeds
  -- by an operation and a sector of it: which line dropped it, or changed a byte of it last
  pub culprits : Culprits
  -- by a device and a sector of it: of the writes and trims of logs there that were answered without
  -- failure, the one that was issued last
  pub newest : Grid
  -- by a read or sync of a log that isn't answered and a sector of it: of a read what was newest there
  -- when it was issued, so that nothing older may be answered, but not where a line without a
  -- reference answered; of a sync what stood lost then, by the sectors of its device
  pub claims : Grid
  -- by a write or trim of a log and a sector of it: that sector of it, where a line without a
  -- reference answered, so that nothing is kept
  pub voids : Grid
  -- by a device and a sector of it: the write or trim that was answered last there, where it was lost
  pub lapses : Grid
  -- by a write of a log and a sector of it: that sector of it, where another byte reached a disk
  pub spoiled : Grid

-- what is asked for is stored as pairs
abbrev pub sought_code : Coded Sought
sought_code = code_by ((Bool × (Bool × Bool)) × (Bool × (Bool × Bool)))
    (coded× (coded× coded_bool (coded× coded_bool coded_bool))
    (coded× coded_bool (coded× coded_bool coded_bool)))
    (λ sought. (
      (sought.eio, (sought.lost, sought.corrupt)),
      (sought.stale, (sought.misplaced, sought.broken_sync)),
    ))
    (λ pairs. record {
      eio = pairs.0.0;
      lost = pairs.0.1.0;
      corrupt = pairs.0.1.1;
      stale = pairs.1.0;
      misplaced = pairs.1.1.0;
      broken_sync = pairs.1.1.1;
    })
    (λ _. refl)

-- what is watched is stored as pairs
abbrev pub watched_code : Coded Watched
watched_code = code_by ((Sought × Known) × ((Deeds × Culprits) × ((Grid × (Grid × Grid)) × (Grid × Grid))))
    (coded× (coded× sought_code known_code) (coded× (coded× deeds_code culprits_code)
    (coded× (coded× grid_code (coded× grid_code grid_code)) (coded× grid_code grid_code))))
    (λ watched. (
      (watched.sought, watched.writers),
      (
        (watched.deeds, watched.culprits),
        ((watched.newest, (watched.claims, watched.voids)), (watched.lapses, watched.spoiled)),
      ),
    ))
    (λ all. record {
      sought = all.0.0;
      writers = all.0.1;
      deeds = all.1.0.0;
      culprits = all.1.0.1;
      newest = all.1.1.0.0;
      claims = all.1.1.0.1.0;
      voids = all.1.1.0.1.1;
      lapses = all.1.1.1.0;
      spoiled = all.1.1.1.1;
    })
    (λ _. refl)

-- whether it is needed who wrote what stands on the disks
abbrev pub keeps_reads : Sought → Bool
keeps_reads sought = sought.corrupt || (sought.stale || sought.misplaced)

-- whether it is needed what lines dropped
abbrev pub keeps_drops : Sought → Bool
keeps_drops sought = sought.lost || (sought.stale || sought.broken_sync)

-- whether it is needed what operations claim
abbrev pub keeps_claims : Sought → Bool
keeps_claims sought = sought.stale || (sought.misplaced || sought.broken_sync)

-- which answers are kept for what is asked for
abbrev pub kept_for : Sought → Kept
kept_for sought = record { reads = keeps_reads sought; drops = keeps_drops sought }

-- before the first event
abbrev pub unwatched : Sought → Watched
unwatched sought = record {
  sought = sought;
  writers = nothing_known (kept_for sought);
  deeds = no_deeds;
  culprits = no_culprits;
  newest = empty;
  claims = empty;
  voids = empty;
  lapses = empty;
  spoiled = empty;
}
