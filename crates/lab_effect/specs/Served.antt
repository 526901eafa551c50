-- What a disk gives to a bio, and what a bio makes of it (this project's own).
use Rattle.std.specs.Prelude.{◌≡◌, ◌==◌, ℕ, true, nat_le, List, [], IsSome, find, length, map, option_map, unwrap_or}
use Rattle.lab_sector.specs.declared.request.Kind.{Kind}
use Rattle.lab_sector.specs.declared.request.Kind.TheVariants.{Read, Write, Trim}
use Rattle.lab_model.specs.Bios.{Bio}
use Rattle.lab_model.specs.DiskEffect.{with_sectors}
use Rattle.lab_model.specs.Sectors.{Sectors, filled, part, put}
use Rattle.lab_model.specs.State.{Disk}
use Rattle.lab_model.specs.Tables.{end_of}

-- what a disk of these sectors gives to a bio: its sectors to a read
abbrev pub given_to : Sectors → Bio → Kind → Sectors
given_to sectors bio Read = part sectors bio.span
given_to sectors bio kind = []

-- the sectors after a bio: a write or a trim sets its own
abbrev pub changed_by : Sectors → Bio → Kind → Sectors
changed_by sectors bio Write = put sectors bio.span.first bio.sectors
changed_by sectors bio Trim = put sectors bio.span.first (filled bio.span.len 0)
changed_by sectors bio kind = sectors

-- the sectors of the disk of this number; none where it isn't there
abbrev pub disk_sectors : List Disk → ℕ → Sectors
disk_sectors disks number =
    unwrap_or (option_map (λ disk. disk.sectors) (find (λ disk. disk.number == number) disks)) []

-- the disk of this number is there, and the bio's sectors are inside
pub record HasDisk (disks : List Disk) (number : ℕ) (bio : Bio) : Type 0 where
  pub there : IsSome (find (λ disk. disk.number == number) disks)
  pub inside : nat_le (end_of bio.kind bio.span) (length (disk_sectors disks number)) ≡ true

-- the disks after a bio at the one of this number: a write or a trim changes it
abbrev pub disks_after : List Disk → ℕ → Bio → Kind → List Disk
disks_after disks number bio Write =
    map (with_sectors number (changed_by (disk_sectors disks number) bio Write)) disks
disks_after disks number bio Trim =
    map (with_sectors number (changed_by (disk_sectors disks number) bio Trim)) disks
disks_after disks number bio kind = disks
