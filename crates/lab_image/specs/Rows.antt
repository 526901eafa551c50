-- What stands on the disks, as rows of sectors that one write wrote (this project's own).
use Rattle.std.specs.Prelude.{ℕ, ◌+◌, ◌==◌, ◌&&◌, Bool, List, [], ◌∷◌, Option, Some, None, find, fold, max}
use Rattle.std.specs.Prelude.{if◌then◌else◌, length, option_map}
use Rattle.std.specs.List.{range_with_len}
use Rattle.lab_target.specs.declared.verdict.Mark.{Mark}
use Rattle.lab_model.specs.Sectors.{Sectors}
use Rattle.lab_model.specs.State.{Disk}
use Rattle.lab_next.specs.declared.writer.Writer.{Writer}
use Rattle.lab_watch.specs.Grids.{writers_in}
use Rattle.lab_image.specs.Changes.{Changes, marks_at}
use Rattle.lab_image.specs.Stores.{Store}

-- sectors of a disk side by side that a write wrote, one sector of it after another
pub record DiskRow : Type 0 where
  -- N of /dev/ramN
  pub disk : ℕ
  -- the first of the sectors, and how many they are
  pub first : ℕ
  pub count : ℕ
  -- which sector of which write stands in the first one
  pub writer : Writer
  -- the bytes of the first one that were changed on the way, in order, with their values
  pub changed : List Mark

-- whether a row has no changed byte
abbrev pub is_unchanged : DiskRow → Bool
is_unchanged row = length row.changed == 0

-- whether one sector is the one of the same operation that comes so far behind another
abbrev pub is_behind : Writer → Writer → ℕ → Bool
is_behind writer first count = (writer.origin.log == first.origin.log)
    && ((writer.origin.line == first.origin.line) && (first.sector + count == writer.sector))

-- whether a row lies behind another, on the disk as well as in the write
abbrev pub lies_behind : DiskRow → DiskRow → Bool
lies_behind last row = (last.disk == row.disk)
    && ((last.first + last.count == row.first) && is_behind row.writer last.writer last.count)

-- whether a row goes on where another ends, and no byte of either was changed
abbrev pub goes_on : DiskRow → DiskRow → Bool
goes_on last row = is_unchanged last && (is_unchanged row && lies_behind last row)

-- both as one row
abbrev pub joined_rows : DiskRow → DiskRow → DiskRow
joined_rows last row = record last { count = last.count + row.count }

-- rows with one more behind them: it is added to the last one, if it goes on there
abbrev pub added : List DiskRow → DiskRow → List DiskRow
added [] row = row ∷ []
added (last ∷ []) row = if goes_on last row then joined_rows last row ∷ [] else last ∷ row ∷ []
added (one ∷ next ∷ rows) row = one ∷ added (next ∷ rows) row

-- a sector of a disk that has this one of a write, as a row
abbrev pub sector_row : Changes → ℕ → ℕ → Writer → DiskRow
sector_row changes disk sector writer = record {
  disk = disk;
  first = sector;
  count = 1;
  writer = writer;
  changed = marks_at changes (disk, sector);
}

-- rows with the sectors of a disk from one on behind them, which have these of writes, if any
abbrev pub with_sector_rows : Changes → ℕ → List DiskRow → ℕ → List (Option Writer) → List DiskRow
with_sector_rows changes disk rows sector [] = rows
with_sector_rows changes disk rows sector (None ∷ more) =
    with_sector_rows changes disk rows (sector + 1) more
with_sector_rows changes disk rows sector (Some writer ∷ more) =
    with_sector_rows changes disk (added rows (sector_row changes disk sector writer))
    (sector + 1) more

-- rows with all sectors of a disk behind them, if it is there
abbrev pub with_disk_rows : Store → List DiskRow → ℕ → Option Sectors → List DiskRow
with_disk_rows store rows number None = rows
with_disk_rows store rows number (Some sectors) = with_sector_rows store.changes number rows 0
    (writers_in store.writers number 0 (length sectors))

-- the sectors of the disk of a number, if it is there
abbrev pub sectors_on : List Disk → ℕ → Option Sectors
sectors_on disks number =
    option_map (λ disk. disk.sectors) (find (λ disk. disk.number == number) disks)

-- a number behind those of all disks
abbrev pub behind_disks : List Disk → ℕ
behind_disks disks = fold (λ last disk. max last (disk.number + 1)) 0 disks

-- rows with those of so many disks behind them, by their numbers, from this number on
abbrev pub with_disks : Store → List Disk → List DiskRow → ℕ → ℕ → List DiskRow
with_disks store disks rows number count = fold (λ before n.
    with_disk_rows store before n (sectors_on disks n)) rows (range_with_len number count)

-- what stands on the disks, by their numbers and their sectors: a row for each run of sectors that
-- one write wrote, one sector of it after another, and for each sector of which a byte was changed
abbrev pub image_rows : Store → List Disk → List DiskRow
image_rows store disks = with_disks store disks [] 0 (behind_disks disks)
