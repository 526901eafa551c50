-- What the rows of disks give a sector is what stands there.
use Rattle.lab_model.proofs.Common.{rules, ◌≡◌, ◌≢◌, ◌∙◌, ℕ, suc, zero, ◌+◌, ◌-◌, ◌<◌, ◌≤◌, ◌==◌, false, true}
use Rattle.lab_model.proofs.Common.{List, [], ◌∷◌, Option, Some, None, ap, arith, cond, length}
use Rattle.lab_model.proofs.Common.{nat_tests, refl, Disk, Sectors, max, fold, inl, inr}
use Rattle.lab_model.proofs.Common.{None-not-Some, cases_Bool, cases_lt}
use Rattle.lab_next.specs.declared.writer.Writer.{Writer}
use Rattle.lab_watch.specs.Grids.{writer_at, writers_in}
use Rattle.lab_image.specs.Changes.{marks_at}
use Rattle.lab_image.specs.Given.{Data, GiveAll, covers, given_by, given_else, replaced}
use Rattle.lab_image.specs.Given.{sector_bytes, standing_else, zeroes}
use Rattle.lab_image.specs.Rows.{DiskRow, added, behind_disks, image_rows, sector_row, sectors_on}
use Rattle.lab_image.specs.Rows.{with_disk_rows, with_disks, with_sector_rows}
use Rattle.lab_image.specs.Stores.{Store}
use Rattle.lab_image.proofs.Giving.{added-gives}

module _ (contents : Data) (store : Store) (disk sector : ℕ) where
  -- what these sectors of a disk give a sector, from one on; these bytes where they don't have it
  abbrev falls : ℕ → ℕ → List (Option Writer) → List ℕ → List ℕ
  falls number at [] others = others
  falls number at (None ∷ more) others = falls number (at + 1) more others
  falls number at (Some writer ∷ more) others =
      cond (covers disk sector (sector_row store.changes number at writer))
      (given_by contents sector (sector_row store.changes number at writer))
      (falls number (at + 1) more others)

  -- rows with these sectors behind them give what they gave, or else what the sectors give
  sectors-give : (number at : ℕ) (rows : List DiskRow) (writers : List (Option Writer))
      (others : List ℕ)
      → given_else contents (with_sector_rows store.changes number rows at writers) disk sector others
      ≡ given_else contents rows disk sector (falls number at writers others)
  sectors-give number at rows [] others = refl
  sectors-give number at rows (None ∷ more) others = sectors-give number (at + 1) rows more others
  sectors-give number at rows (Some writer ∷ more) others =
      let row = sector_row store.changes number at writer in
      sectors-give number (at + 1) (added rows row) more others
      ∙ added-gives contents disk sector rows row (falls number (at + 1) more others)

  -- a sector of it that lies behind doesn't cover it
  not-over : (at : ℕ) (writer : Writer) → sector < at
      → covers disk sector (sector_row store.changes disk at writer) ≡ false
  not-over at writer low = grind (arith, nat_tests)

  -- sectors of another disk give nothing
  other-falls : (number at : ℕ) (writers : List (Option Writer)) (others : List ℕ)
      → number ≢ disk → falls number at writers others ≡ others
  other-falls number at [] others apart = refl
  other-falls number at (None ∷ more) others apart = other-falls number (at + 1) more others apart
  other-falls number at (Some writer ∷ more) others apart =
      search (rules, other-falls number (at + 1) more others apart)

  -- nor do sectors behind it
  behind-falls : (at : ℕ) (writers : List (Option Writer)) (others : List ℕ) → sector < at
      → falls disk at writers others ≡ others
  behind-falls at [] others low = refl
  behind-falls at (None ∷ more) others low = behind-falls (at + 1) more others (omega (arith, low))
  behind-falls at (Some writer ∷ more) others low =
      ap (λ test. cond test (given_by contents sector (sector_row store.changes disk at writer))
      (falls disk (at + 1) more others)) (not-over at writer low)
      ∙ behind-falls (at + 1) more others (omega (arith, low))

  -- the first of some sectors gives it what stands there, where it is that sector
  here-falls : (writer : Option Writer) (more : List (Option Writer)) (others : List ℕ)
      → falls disk sector (writer ∷ more) others
      ≡ sector_bytes contents (marks_at store.changes (disk, sector)) writer others
  here-falls None more others = behind-falls (sector + 1) more others (omega arith)
  here-falls (Some writer) more others =
      ap (λ test. cond test (given_by contents sector (sector_row store.changes disk sector writer))
      (falls disk (sector + 1) more others)) (over-itself writer)
      ∙ ap (λ n. replaced (marks_at store.changes (disk, sector))
      (contents (record { origin = writer.origin; sector = n }))) (no-further writer.sector)
    where
      over-itself : (writer : Writer)
          → covers disk sector (sector_row store.changes disk sector writer) ≡ true
      over-itself writer = grind (arith, nat_tests)

      no-further : (from : ℕ) → from + (sector - sector) ≡ from
      no-further from = omega arith

  -- else the others do
  past-falls : (at : ℕ) (writer : Option Writer) (more : List (Option Writer)) (others : List ℕ)
      → at < sector → falls disk at (writer ∷ more) others ≡ falls disk (at + 1) more others
  past-falls at None more others high = refl
  past-falls at (Some writer) more others high =
      ap (λ test. cond test (given_by contents sector (sector_row store.changes disk at writer))
      (falls disk (at + 1) more others)) (not-up-to at writer high)
    where
      not-up-to : (at : ℕ) (writer : Writer) → at < sector
          → covers disk sector (sector_row store.changes disk at writer) ≡ false
      not-up-to at writer high = grind (arith, nat_tests)

  -- a part of the disk that has the sector gives it what stands there
  part-falls : (at count : ℕ) (others : List ℕ) → at ≤ sector → sector < at + count
      → falls disk at (writers_in store.writers disk at count) others
      ≡ standing_else contents store disk sector others
  part-falls at zero others low high = absurd (omega (arith, low, high))
  part-falls at (suc count) others low high = elim (cases_lt at sector) [
    | inl less ↦ past-falls at (writer_at store.writers disk at)
        (writers_in store.writers disk (at + 1) count) others less
        ∙ part-falls (at + 1) count others (omega (arith, less)) (omega (arith, high))
    | inr same ↦
        let is : at ≡ sector = omega (arith, same, low) in
        ap (λ n. falls disk n (writers_in store.writers disk n (suc count)) others) is
        ∙ here-falls (writer_at store.writers disk sector)
        (writers_in store.writers disk (sector + 1) count) others
  ]

  -- what a disk gives the sector, if it is there
  abbrev disk_falls : ℕ → Option Sectors → List ℕ → List ℕ
  disk_falls number None others = others
  disk_falls number (Some sectors) others =
      falls number 0 (writers_in store.writers number 0 (length sectors)) others

  -- rows with a disk behind them give what they gave, or else what the disk gives
  disk-gives : (number : ℕ) (rows : List DiskRow) (found : Option Sectors) (others : List ℕ)
      → given_else contents (with_disk_rows store rows number found) disk sector others
      ≡ given_else contents rows disk sector (disk_falls number found others)
  disk-gives number rows None others = refl
  disk-gives number rows (Some sectors) others =
      sectors-give number 0 rows (writers_in store.writers number 0 (length sectors)) others

  -- another disk gives nothing
  other-disk : (number : ℕ) (found : Option Sectors) (others : List ℕ) → number ≢ disk
      → disk_falls number found others ≡ others
  other-disk number None others apart = refl
  other-disk number (Some sectors) others apart =
      other-falls number 0 (writers_in store.writers number 0 (length sectors)) others apart

  module _ (disks : List Disk) where
    -- what so many disks give it
    abbrev disks_falls : ℕ → ℕ → List ℕ → List ℕ
    disks_falls number zero others = others
    disks_falls number (suc count) others =
        disk_falls number (sectors_on disks number) (disks_falls (number + 1) count others)

    -- rows with those behind them give what they gave, or else what the disks give
    disks-give : (number count : ℕ) (rows : List DiskRow) (others : List ℕ)
        → given_else contents (with_disks store disks rows number count) disk sector others
        ≡ given_else contents rows disk sector (disks_falls number count others)
    disks-give number zero rows others = refl
    disks-give number (suc count) rows others =
        disks-give (number + 1) count
        (with_disk_rows store rows number (sectors_on disks number)) others
        ∙ disk-gives number rows (sectors_on disks number) (disks_falls (number + 1) count others)

    -- disks behind its own give nothing
    high-disks : (number count : ℕ) (others : List ℕ) → disk < number
        → disks_falls number count others ≡ others
    high-disks number zero others high = refl
    high-disks number (suc count) others high =
        other-disk number (sectors_on disks number) (disks_falls (number + 1) count others)
        (λ is. omega (arith, is, high))
        ∙ high-disks (number + 1) count others (omega (arith, high))

    module _ (sectors : Sectors) (stands : sectors_on disks disk ≡ Some sectors)
        (inside : sector < length sectors) where
      -- its own disk gives it what stands there
      own-disk : (others : List ℕ) → disk_falls disk (sectors_on disks disk) others
          ≡ standing_else contents store disk sector others
      own-disk others = ap (λ found. disk_falls disk found others) stands
          ∙ part-falls 0 (length sectors) others (omega arith) (omega (arith, inside))

      -- so do disks among which it is
      those-disks : (number count : ℕ) (others : List ℕ) → number ≤ disk → disk < number + count
          → disks_falls number count others
          ≡ standing_else contents store disk sector others
      those-disks number zero others low high = absurd (omega (arith, low, high))
      those-disks number (suc count) others low high = elim (cases_lt number disk) [
        | inl less ↦ other-disk number (sectors_on disks number)
            (disks_falls (number + 1) count others) (λ is. omega (arith, is, less))
            ∙ those-disks (number + 1) count others (omega (arith, less)) (omega (arith, high))
        | inr same ↦
            let is : number ≡ disk = omega (arith, same, low) in
            ap (λ n. disk_falls n (sectors_on disks n) (disks_falls (number + 1) count others)) is
            ∙ own-disk (disks_falls (number + 1) count others)
            ∙ ap (standing_else contents store disk sector)
            (high-disks (number + 1) count others (omega (arith, is)))
      ]

-- the number behind all disks is not below the one that it begins with
begin-low : (disks : List Disk) (last : ℕ)
    → last ≤ fold (λ last disk. max last (disk.number + 1)) last disks
begin-low [] last = omega arith
begin-low (disk ∷ disks) last =
    let rest = begin-low disks (max last (disk.number + 1)) in grind (arith, rest)

-- a disk that is there has a number in front of it
low-disk : (disks : List Disk) (last disk : ℕ) (sectors : Sectors)
    → sectors_on disks disk ≡ Some sectors
    → disk < fold (λ last disk. max last (disk.number + 1)) last disks
low-disk [] last disk sectors stands = absurd (None-not-Some stands)
low-disk (own ∷ disks) last disk sectors stands = elim (cases_Bool (own.number == disk)) [
  | inl is ↦
      let up = begin-low disks (max last (own.number + 1)) in
      grind (arith, nat_tests, up, is)
  | inr not ↦ low-disk disks (max last (own.number + 1)) disk sectors (rw not at stands)
]

-- so the rows give each sector of each disk what stands there
pub give-all : (store : Store) (disks : List Disk) → GiveAll store disks (image_rows store disks)
give-all store disks contents disk sector sectors stands inside =
    disks-give contents store disk sector disks 0 (behind_disks disks) [] zeroes
    ∙ those-disks contents store disk sector disks sectors stands inside 0 (behind_disks disks)
    zeroes (omega arith) (let low = low-disk disks 0 disk sectors stands in omega (arith, low))
