-- Disks keep their sizes where sectors are written into one of them.
use Rattle.lab_model.proofs.Common.{rules, ◌≡◌, ◌==◌, ℕ, ◌≢◌, ◌+◌, ◌≤◌, true, List, [], ◌∷◌, find}
use Rattle.lab_model.proofs.Common.{Option, Some, length, map, refl, arith, leb-true, nat_le}
use Rattle.lab_model.proofs.Common.{nat_tests, common_steps, None-not-Some, Span, with_disk, filled}
use Rattle.lab_model.proofs.Common.{with_sectors, Scenario, Sectors, put, Disk, State, disk_of}
use Rattle.lab_model.proofs.Common.{option_map, length-replicate}
use Rattle.law_never_wrong.specs.Fits.{FitsDisks}

-- so many sectors of one byte
pub length-filled : (count byte : ℕ) → length (filled count byte) ≡ count
length-filled count byte = length-replicate count _

-- sectors with others put in place of some are as many as before
pub length-put : (sectors : Sectors) (first : ℕ) (others : Sectors)
    → first + length others ≤ length sectors → length (put sectors first others) ≡ length sectors
length-put sectors first others inside = grind (arith, common_steps)

-- the same where the others fill a span that ends inside
pub length-put-span : (sectors : Sectors) (span : Span) (others : Sectors)
    → length others ≡ span.len → nat_le (span.first + span.len) (length sectors) ≡ true
    → length (put sectors span.first others) ≡ length sectors
length-put-span sectors span others fills inside = search (rules, length-put, leb-true)

-- the sectors of the disk of a number among some
abbrev pub sectors_in : ℕ → List Disk → Option Sectors
sectors_in number disks =
    option_map (λ disk. disk.sectors) (find (λ disk. disk.number == number) disks)

-- another disk stays
other-disk : (disks : List Disk) (number disk : ℕ) (changed : Sectors) → number ≢ disk
    → sectors_in number (map (with_sectors disk changed) disks) ≡ sectors_in number disks
other-disk [] number disk changed apart = refl
other-disk (d ∷ disks) number disk changed apart = grind (arith, nat_tests, other-disk disks)

-- the disk itself has what was written
pub same-disk : (disk : ℕ) (changed sectors : Sectors) (disks : List Disk) → sectors_in disk disks
    ≡ Some sectors → sectors_in disk (map (with_sectors disk changed) disks) ≡ Some changed
same-disk disk changed sectors [] stands = absurd (None-not-Some stands)
same-disk disk new old (d ∷ more) stands = grind (arith, nat_tests, same-disk disk new old more)

-- all disks have the sizes of the scenario where as many sectors are written in place of one's
pub with_disk-fits : {S : Type 0} (s : State S) (disk : ℕ) (sectors changed : Sectors)
    → disk_of s disk ≡ Some sectors → length changed ≡ length sectors → (c : Scenario S)
    → FitsDisks c s → FitsDisks c (with_disk s disk changed)
with_disk-fits _ _ _ _ stands same _ fits number = search (rules, same-disk, other-disk)
