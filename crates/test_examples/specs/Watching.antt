-- Words for what is watched, in examples of single answers.
use Rattle.std.specs.Prelude.{ℕ, List, Option, Some, option_map}
use Rattle.lab_sector.specs.declared.device.DevNo.TheVariants.{Dm}
use Rattle.lab_sector.specs.declared.request.Kind.{Kind}
use Rattle.lab_model.specs.Bios.{Bio}
use Rattle.lab_model.specs.declared.entry.Action.{Action}
use Rattle.lab_model.specs.declared.entry.Action.TheVariants.{Read}
use Rattle.lab_model.specs.LogEffect.{operation, kind_of}
use Rattle.lab_model.specs.Sectors.{Sectors}
use Rattle.lab_next.specs.declared.origin.Origin.{Origin}
use Rattle.lab_next.specs.declared.writer.Writer.{Writer}
use Rattle.lab_watch.specs.Grids.{with_writers_from}
use Rattle.lab_findings.specs.declared.culprit.Culprit.{Culprit}
use Rattle.lab_findings.specs.declared.noted.Noted.{Noted}
use Rattle.lab_findings.specs.Culprits.{with_culprit}
use Rattle.lab_findings.specs.Deeds.{with_deed}
use Rattle.lab_findings.specs.Issuing.{new_deed}
use Rattle.lab_findings.specs.Judged.{op_noted}
use Rattle.lab_findings.specs.Noted.{answered_by}
use Rattle.lab_findings.specs.Watched.{Watched, unwatched}
use Rattle.test_examples.specs.Findings.{everything, sectors}

-- all findings are asked for, and nothing is watched yet
abbrev pub fresh : Watched
fresh = unwatched everything

-- a line of log 1
abbrev pub line : ℕ → Origin
line number = record { log = 1; line = number }

-- an operation on a line of log 1, on so many sectors of device 0 from this one on
abbrev pub asked : ℕ → Action → ℕ → ℕ → Bio
asked number action first count = operation 1 number (Dm 0) action (sectors first count)

-- the operation on a line of log 1 was issued by the bio of a number, on sectors of device 0 from this
-- one on, and answered when so many bios were made; of it this sector was lost
abbrev pub knowing : Watched → ℕ → Action → ℕ → ℕ → Option ℕ → Option ℕ → Watched
knowing watched number action bio first made lost = record watched {
  deeds = with_deed watched.deeds (line number)
      (record (new_deed bio 0 (asked number action first 1)) { made = made; lost = lost });
}

-- the read of bio 5 is answered what these wrote
abbrev pub reading : Watched → List (Option Writer) → Watched
reading watched row = record watched {
  writers = record watched.writers { reads = with_writers_from watched.writers.reads 5 0 row };
}

-- these are the claims to its sectors
abbrev pub claiming : Watched → List (Option Writer) → Watched
claiming watched row = record watched { claims = with_writers_from watched.claims 5 0 row }

-- a line did something to a sector of the operation of a number
abbrev pub blaming : Watched → ℕ → ℕ → Culprit → Watched
blaming watched number sector culprit =
    record watched { culprits = with_culprit watched.culprits number sector culprit }

-- what is noted of the operation of bio 5, which is answered so
abbrev pub judged : Watched → Bio → Sectors → Option Kind → Option (List Noted)
judged watched bio sectors kind =
    option_map (λ op. op_noted watched op sectors kind) (answered_by 5 0 bio bio.parent)

-- what is noted of a read of so many sectors of device 0 from sector 1 on, on line 6
abbrev pub judged_read : Watched → ℕ → Sectors → Option (List Noted)
judged_read watched count sectors =
    judged watched (asked 6 Read 1 count) sectors (Some (kind_of Read))
