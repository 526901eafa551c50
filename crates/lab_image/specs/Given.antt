-- What rows give the sectors of disks, whatever data the writes have (this project's own).
use Rattle.std.specs.Prelude.{◌≡◌, ℕ, ◌+◌, ◌-◌, ◌<◌, ◌==◌, ◌&&◌, Bool, List, Option, Some, None, find, fold}
use Rattle.std.specs.Prelude.{length, nat_le, nat_lt, replicate, slice_set}
use Rattle.std.specs.Option.{option_map_or}
use Rattle.lab_target.specs.declared.verdict.Mark.{Mark}
use Rattle.lab_model.specs.Sectors.{Sectors}
use Rattle.lab_model.specs.State.{Disk}
use Rattle.lab_next.specs.declared.writer.Writer.{Writer}
use Rattle.lab_watch.specs.Grids.{writer_at, writer_from}
use Rattle.lab_image.specs.Changes.{marks_at}
use Rattle.lab_image.specs.Rows.{DiskRow, sectors_on}
use Rattle.lab_image.specs.Stores.{Store}

-- the data of writes: the bytes of each sector of each
abbrev pub Data : Type 0
Data = Writer → List ℕ

-- 512 zero bytes
abbrev pub zeroes : List ℕ
zeroes = replicate 512 0

-- a sector with these bytes of it replaced
abbrev pub replaced : List Mark → List ℕ → List ℕ
replaced marks bytes = fold (λ sector mark. slice_set sector mark.place mark.value) bytes marks

-- whether a row has a sector of a disk
abbrev pub covers : ℕ → ℕ → DiskRow → Bool
covers disk sector row = (row.disk == disk)
    && (nat_le row.first sector && nat_lt sector (row.first + row.count))

-- what a row gives one of its sectors: that sector of its write, with the changed bytes replaced
abbrev pub given_by : Data → ℕ → DiskRow → List ℕ
given_by contents sector row =
    replaced row.changed (contents (writer_from row.writer (sector - row.first)))

-- what the first row that has a sector of a disk gives it; these bytes where none has
abbrev pub given_else : Data → List DiskRow → ℕ → ℕ → List ℕ → List ℕ
given_else contents rows disk sector others =
    option_map_or (given_by contents sector) (find (covers disk sector) rows) others

-- what rows give a sector of a disk: zero bytes where none has it
abbrev pub given_sector : Data → List DiskRow → ℕ → ℕ → List ℕ
given_sector contents rows disk sector = given_else contents rows disk sector zeroes

-- the bytes of a sector that has this one of a write, if one, with these bytes of it changed: its
-- data with them replaced, or others
abbrev pub sector_bytes : Data → List Mark → Option Writer → List ℕ → List ℕ
sector_bytes contents marks None others = others
sector_bytes contents marks (Some writer) others = replaced marks (contents writer)

-- what stands in a sector of a number: other bytes where no write does
abbrev pub standing_else : Data → Store → ℕ → ℕ → List ℕ → List ℕ
standing_else contents store number sector others =
    sector_bytes contents (marks_at store.changes (number, sector))
    (writer_at store.writers number sector) others

-- zero bytes where no write does
abbrev pub standing : Data → Store → ℕ → ℕ → List ℕ
standing contents store number sector = standing_else contents store number sector zeroes

-- the rows give each sector of each disk what stands there, whatever data the writes have
abbrev pub GiveAll : Store → List Disk → List DiskRow → Type 0
GiveAll store disks rows = (contents : Data) (disk sector : ℕ) (sectors : Sectors)
    → sectors_on disks disk ≡ Some sectors → sector < length sectors
    → given_sector contents rows disk sector ≡ standing contents store disk sector
