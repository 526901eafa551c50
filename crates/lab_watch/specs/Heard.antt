-- What is known of who wrote what, once a disk has served a bio (this project's own).
use Rattle.std.specs.Prelude.{ℕ, Option, Some, None, if◌then◌else◌}
use Rattle.lab_sector.specs.declared.device.DevNo.{DevNo}
use Rattle.lab_sector.specs.declared.device.DevNo.TheVariants.{Ram, Dm}
use Rattle.lab_sector.specs.declared.request.Kind.{Kind}
use Rattle.lab_sector.specs.declared.request.Kind.TheVariants.{Read, Write, Trim, Flush}
use Rattle.lab_sector.specs.declared.span.Span.{Span}
use Rattle.lab_model.specs.declared.event.Event.{Event}
use Rattle.lab_model.specs.declared.event.Event.TheVariants.{Serve}
use Rattle.lab_model.specs.Bios.{Bio}
use Rattle.lab_model.specs.State.{State, bio_of}
use Rattle.lab_next.specs.declared.origin.Root.{Root}
use Rattle.lab_watch.specs.Grids.{cleared, spread, with_writers_from, writers_in}
use Rattle.lab_watch.specs.Known.{Known}
use Rattle.lab_next.specs.Origins.{root_of}

-- these sectors of a disk are written or trimmed by a bio with this root; nobody's, where it has none
abbrev pub with_written : Known → ℕ → Span → Option Root → Known
with_written known disk span None =
    record known { disks = cleared known.disks disk span.first span.len }
with_written known disk span (Some root) =
    record known { disks = spread known.disks disk span.first span.len root.writer }

-- where reads are kept
abbrev pub with_disk_if : Known → ℕ → Span → Option Root → Known
with_disk_if known disk span root =
    if known.kept.reads then with_written known disk span root else known

-- a read, by a bio with this root, is answered what stands on these sectors of a disk
abbrev pub with_read : Known → ℕ → Span → Option Root → Known
with_read known disk span None = known
with_read known disk span (Some root) = record known {
  reads = with_writers_from known.reads root.number root.writer.sector
      (writers_in known.disks disk span.first span.len);
}

-- where reads are kept
abbrev pub with_read_if : Known → ℕ → Span → Option Root → Known
with_read_if known disk span root =
    if known.kept.reads then with_read known disk span root else known

-- a disk serves a bio with this root, by its kind
abbrev pub known_served_by : Known → ℕ → Span → Option Root → Kind → Known
known_served_by known disk span root Read = with_read_if known disk span root
known_served_by known disk span root Write = with_disk_if known disk span root
known_served_by known disk span root Trim = with_disk_if known disk span root
known_served_by known disk span root Flush = known

-- the bio of a number is served at its device, where that is a disk
abbrev pub known_served_at : {S : Type 0} → State S → Known → ℕ → Bio → DevNo → Known
known_served_at s known number bio (Ram disk) =
    known_served_by known disk bio.span (root_of s number) bio.kind
known_served_at s known number bio (Dm device) = known

-- the bio of a number is served, if it lives
abbrev pub known_served : {S : Type 0} → State S → Known → ℕ → Option Bio → Known
known_served s known number None = known
known_served s known number (Some bio) = known_served_at s known number bio bio.device

-- what is known once a disk has served an event's bio, in the state in which the event comes
abbrev pub heard : {S : Type 0} → State S → Event → Known → Known
heard s (Serve number) known = known_served s known number (bio_of s number)
heard s _ known = known
