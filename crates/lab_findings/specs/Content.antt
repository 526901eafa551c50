-- The sectors that a read is answered by an event (this project's own).
use Rattle.std.specs.Prelude.{◌+◌, nat_le, length, [], Option, Some, None, if◌then◌else◌}
use Rattle.lab_sector.specs.declared.device.DevNo.{DevNo}
use Rattle.lab_sector.specs.declared.device.DevNo.TheVariants.{Ram, Dm}
use Rattle.lab_sector.specs.declared.span.Span.{Span}
use Rattle.lab_model.specs.Bios.{Bio, Stage, InFlight}
use Rattle.lab_model.specs.declared.event.Event.{Event}
use Rattle.lab_model.specs.declared.event.Event.TheVariants.{Serve, Finish}
use Rattle.lab_model.specs.Sectors.{Sectors, part}
use Rattle.lab_model.specs.State.{State, bio_of, disk_of}

-- what stands on these sectors of a disk, if it is there and has them
abbrev pub disk_content : Span → Option Sectors → Sectors
disk_content span None = []
disk_content span (Some sectors) =
    if nat_le (span.first + span.len) (length sectors) then part sectors span else []

-- what a disk gives a bio
abbrev pub served_content : {S : Type 0} → State S → Option Bio → Sectors
served_content s None = []
served_content s (Some bio) = at bio.device where
  at : DevNo → Sectors
  at (Ram disk) = disk_content bio.span (disk_of s disk)
  at (Dm device) = []

-- what the pieces of a bio have given it
abbrev pub stage_content : Stage → Sectors
stage_content (InFlight failed sectors) = sectors
stage_content stage = []

-- what a bio in flight has been given
abbrev pub finished_content : Option Bio → Sectors
finished_content None = []
finished_content (Some bio) = stage_content bio.stage

-- the sectors that the event answers a read
abbrev pub content_answered : {S : Type 0} → State S → Event → Sectors
content_answered s (Serve number) = served_content s (bio_of s number)
content_answered s (Finish number) = finished_content (bio_of s number)
content_answered s event = []
