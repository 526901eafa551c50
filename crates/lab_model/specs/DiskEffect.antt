-- A bio at a memory disk, and the answer to a bio in flight (this project's own).
use Rattle.std.specs.Prelude.{ℕ, ◌==◌, nat_le, [], map, if◌then◌else◌}
use Rattle.lab_sector.specs.declared.device.DevNo.TheVariants.{Ram, Dm}
use Rattle.lab_sector.specs.declared.request.Kind.{Kind}
use Rattle.lab_sector.specs.declared.request.Kind.TheVariants.{Read, Write, Trim, Flush}
use Rattle.lab_model.specs.After.{After, Next, NoDevice, PastEnd, given, unless, where_there}
use Rattle.lab_model.specs.Answers.{Failed, Gave, answered}
use Rattle.lab_model.specs.Bios.{Bio, Entering, InFlight}
use Rattle.lab_model.specs.Sectors.{Sectors, filled, part, put}
use Rattle.lab_model.specs.State.{State, Disk, bio_of, disk_of, with_bio}
use Rattle.std.specs.Prelude.{length}
use Rattle.lab_model.specs.Tables.{end_of}

-- the disk of a number with other sectors
abbrev pub with_sectors : ℕ → Sectors → Disk → Disk
with_sectors number sectors disk =
    if disk.number == number then record disk { sectors = sectors } else disk

-- the state with other sectors on the disk of a number
abbrev pub with_disk : {S : Type 0} → State S → ℕ → Sectors → State S
with_disk s number sectors = record s { disks = map (with_sectors number sectors) s.disks }

-- a read is answered with the disk's sectors; a write or trim sets them; a flush does nothing
abbrev pub served : {S : Type 0} → State S → ℕ → Bio → ℕ → Sectors → Kind → State S
served s number bio disk sectors Read = answered s number bio (Gave (part sectors bio.span))
served s number bio disk sectors Write =
    answered (with_disk s disk (put sectors bio.span.first bio.sectors)) number bio (Gave [])
served s number bio disk sectors Trim = answered
    (with_disk s disk (put sectors bio.span.first (filled bio.span.len 0))) number bio (Gave [])
served s number bio disk sectors Flush = answered s number bio (Gave [])

-- the disk serves the bio of this number, whose sectors have to be the disk's
abbrev pub serve : {S : Type 0} → State S → ℕ → After S
serve s number = where_there s (bio_of s number) (λ bio. elim bio.device [
  | Ram disk ↦ given NoDevice (disk_of s disk) (λ sectors.
      unless PastEnd (nat_le (end_of bio.kind bio.span) (length sectors))
      (Next (served s number bio disk sectors bio.kind)))
  | Dm device ↦ Next s
])

-- the held bio of this number goes on
abbrev pub release : {S : Type 0} → State S → ℕ → After S
release s number = Next (with_bio s number (λ bio. record bio { stage = Entering }))

-- the bio in flight of this number, whose pieces are answered, is answered: it failed if one has,
-- else it gives what was recorded
abbrev pub finish : {S : Type 0} → State S → ℕ → After S
finish s number = where_there s (bio_of s number) (λ bio. elim bio.stage [
  | InFlight failed sectors ↦ Next (answered s number bio (if failed then Failed else Gave sectors))
  | _ ↦ Next s
])
