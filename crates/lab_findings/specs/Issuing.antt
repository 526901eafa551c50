-- What is watched once a log has issued an operation (this project's own).
use Rattle.std.specs.Prelude.{ℕ, nat_lt, length, Option, Some, None, Bool, true, false}
use Rattle.std.specs.Prelude.{if◌then◌else◌}
use Rattle.lab_sector.specs.declared.request.Kind.{Kind}
use Rattle.lab_sector.specs.declared.request.Kind.TheVariants.{Read, Trim, Flush}
use Rattle.lab_model.specs.Bios.{Bio}
use Rattle.lab_model.specs.State.{State, bio_of}
use Rattle.lab_next.specs.declared.origin.Origin.{Origin}
use Rattle.lab_next.specs.Answering.{own_origin}
use Rattle.lab_watch.specs.Grids.{with_writers_from, writers_in}
use Rattle.lab_findings.specs.declared.deed.Deed.{Deed}
use Rattle.lab_findings.specs.Deeds.{with_deed}
use Rattle.lab_findings.specs.Watched.{Watched, device_reach, grid_number, keeps_claims}

-- whether a bio is a trim
abbrev pub is_trim : Kind → Bool
is_trim Trim = true
is_trim _ = false

-- what is known of an operation that the bio of a number issues at a moment
abbrev pub new_deed : ℕ → ℕ → Bio → Deed
new_deed number moment bio = record {
  bio = number;
  device = grid_number bio.device;
  first = bio.span.first;
  trims = is_trim bio.kind;
  issued = moment;
  made = None;
  lost = None;
}

-- a sync claims what stands lost on its device
abbrev pub claimed_lapses : Watched → ℕ → ℕ → Watched
claimed_lapses watched number device = record watched {
  claims = with_writers_from watched.claims number 0
      (writers_in watched.lapses device 0 device_reach);
}

-- what the operation that this bio issues claims: a read what is newest at its sectors, and a sync
-- what stands lost on its device
abbrev pub claimed : Watched → ℕ → Bio → Kind → Watched
claimed watched number bio Read = record watched {
  claims = with_writers_from watched.claims number 0
      (writers_in watched.newest (grid_number bio.device) bio.span.first bio.span.len);
}
claimed watched number bio Flush = claimed_lapses watched number (grid_number bio.device)
claimed watched number bio _ = watched

-- where claims are needed
abbrev pub claimed_if : Watched → ℕ → Bio → Watched
claimed_if watched number bio =
    if keeps_claims watched.sought then claimed watched number bio bio.kind else watched

-- an operation is issued by this bio, at a moment
abbrev pub issued_by : Watched → ℕ → ℕ → Bio → Option Origin → Watched
issued_by watched number moment bio None = watched
issued_by watched number moment bio (Some origin) =
    claimed_if (record watched {
      deeds = with_deed watched.deeds origin (new_deed number moment bio);
    }) number bio

-- the bio of a number is issued by a log, if it lives
abbrev pub issued_at : Watched → ℕ → ℕ → Option Bio → Watched
issued_at watched number moment None = watched
issued_at watched number moment (Some bio) =
    issued_by watched number moment bio (own_origin bio.parent)

-- in the state after a log's line, before which so many bios were made: where it made one more, that
-- is issued now
abbrev pub watch_issued : {S : Type 0} → ℕ → State S → Watched → Watched
watch_issued made s watched = if nat_lt made (length s.bios)
    then issued_at watched (length s.bios) s.clock (bio_of s (length s.bios)) else watched
