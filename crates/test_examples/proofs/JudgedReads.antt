-- What is noted of a read on line 6 of a log, by who wrote what it is answered and what it should see.
use Rattle.test_examples.proofs.Places.{places}
use Rattle.std.specs.Prelude.{◌≡◌, ℕ, List, [], ◌∷◌, Some, None, Option}
use Rattle.lab_sector.specs.declared.device.DevNo.TheVariants.{Dm, Ram}
use Rattle.lab_model.specs.declared.entry.Action.{Action}
use Rattle.lab_model.specs.declared.entry.Action.TheVariants.{Read, Write, Trim}
use Rattle.lab_model.specs.LogEffect.{kind_of, operation}
use Rattle.lab_next.specs.declared.writer.Writer.{Writer}
use Rattle.lab_findings.specs.declared.finding.Finding.TheVariants.{Corrupt, Stale, Misplaced, Eio}
use Rattle.lab_findings.specs.declared.noted.Noted.{Noted}
use Rattle.lab_findings.specs.Watched.{Watched}
use Rattle.test_examples.specs.Findings.{culprit, by, found, sector_of, sectors, with_writers, wrong}
use Rattle.test_examples.specs.Watching.{asked, blaming, claiming, fresh, judged, judged_read, knowing}
use Rattle.test_examples.specs.Watching.{reading}

-- operations on sector 1: the one on line 4 was answered when so many bios were made, the one on line 5
-- was issued by bio 3 and is lost, by line 2 of the table
abbrev lost_over : Action → ℕ → Action → Watched
lost_over first made second = blaming (knowing (knowing fresh 4 first 1 1 (Some made) None)
    5 second 3 1 (Some 3) (Some 0)) 3 0 (culprit 0 2)

-- a read of sector 1 is answered so, where line 5 is newest
abbrev read_as : Watched → Option Writer → List ℕ → Option (List Noted)
read_as watched got sector = judged_read (claiming (reading watched (got ∷ []))
    (Some (sector_of 1 5 0) ∷ [])) 1 (sector ∷ [])

-- line 5 is wanted, and this was found
abbrev stale_by : Option Writer → Option (List Noted)
stale_by got = Some (with_writers got (Some (sector_of 1 5 0))
    (found Stale 1 6 Read (Dm 0) (sectors 1 1) (wrong 1 1) (by 0 2)) ∷ [])

-- an older write is found: it was answered before the lost one was issued
older : read_as (lost_over Write 2 Write) (Some (sector_of 1 4 0)) (20 ∷ 20 ∷ [])
    ≡ stale_by (Some (sector_of 1 4 0))
older = simp places

-- where it was answered later the two overlap, and either may be found
overlapping : read_as (lost_over Write 3 Write) (Some (sector_of 1 4 0)) (20 ∷ 20 ∷ []) ≡ Some []
overlapping = simp places

-- an older write is found where a trim is wanted
under_a_trim : read_as (lost_over Write 2 Trim) (Some (sector_of 1 4 0)) (20 ∷ [])
    ≡ stale_by (Some (sector_of 1 4 0))
under_a_trim = simp places

-- a trim's zeroes are found where a later trim is wanted
two_trims : read_as (lost_over Trim 2 Trim) (Some (sector_of 1 4 0)) (0 ∷ []) ≡ Some []
two_trims = simp places

-- nobody's zeroes are found where a write is wanted
nobodys : read_as (lost_over Write 2 Write) None (0 ∷ []) ≡ stale_by None
nobodys = simp places

-- and where a trim is wanted
nobodys_trim : read_as (lost_over Write 2 Trim) None (0 ∷ []) ≡ Some []
nobodys_trim = simp places

-- what is wanted is found
newest : read_as (lost_over Write 2 Write) (Some (sector_of 1 5 0)) (21 ∷ []) ≡ Some []
newest = simp places

-- the second sector of two alone is stale: nothing is wanted of the first one
second_sector : judged_read (claiming
    (reading (lost_over Write 2 Write) (Some (sector_of 1 4 0) ∷ None ∷ []))
    (None ∷ Some (sector_of 1 5 0) ∷ [])) 2 ((20 ∷ []) ∷ (0 ∷ []) ∷ [])
    ≡ Some (with_writers None (Some (sector_of 1 5 0))
    (found Stale 1 6 Read (Dm 0) (sectors 1 2) (wrong 2 1) (by 0 2)) ∷ [])
second_sector = simp places

-- line 4 wrote sector 0 of device 0
abbrev from_sector_0 : Watched
from_sector_0 = reading (knowing fresh 4 Write 1 0 (Some 2) None) (Some (sector_of 1 4 0) ∷ [])

-- it is found at sector 1
misplaced : judged_read from_sector_0 1 ((20 ∷ []) ∷ [])
    ≡ Some (with_writers (Some (sector_of 1 4 0)) None
    (found Misplaced 1 6 Read (Dm 0) (sectors 1 1) (wrong 1 1) None) ∷ [])
misplaced = simp places

-- it is found at another sector of another device
on_another_device : judged from_sector_0 (operation 1 6 (Ram 0) Read (sectors 1 1))
    ((20 ∷ []) ∷ []) (Some (kind_of Read)) ≡ Some []
on_another_device = simp places

-- the first of three sectors of line 4 is read with its bytes, the second with another last byte, and
-- nobody's sector with one
abbrev three : Watched → Option (List Noted)
three watched = judged_read (reading (knowing watched 4 Write 1 1 (Some 2) None)
    (Some (sector_of 1 4 0) ∷ Some (sector_of 1 4 1) ∷ None ∷ []))
    3 ((20 ∷ 20 ∷ []) ∷ (20 ∷ 7 ∷ []) ∷ (0 ∷ 7 ∷ []) ∷ [])

-- two are corrupt, and the first of them by this line
abbrev corrupt_by : ℕ → Option (List Noted)
corrupt_by line = Some (with_writers (Some (sector_of 1 4 1)) (Some (sector_of 1 4 1))
    (found Corrupt 1 6 Read (Dm 0) (sectors 1 3) (wrong 2 2) (by 0 line)) ∷ [])

-- a line changed the byte on its way to the disk
to_the_disk : three (blaming fresh 1 1 (culprit 0 1)) ≡ corrupt_by 1
to_the_disk = simp places

-- one did on its way back, which is told before that
on_the_way_back : three (blaming (blaming fresh 1 1 (culprit 0 1)) 5 1 (culprit 0 2)) ≡ corrupt_by 2
on_the_way_back = simp places

-- a trim writes zeroes
trimmed : judged_read (reading (knowing fresh 4 Trim 1 1 (Some 2) None) (Some (sector_of 1 4 0) ∷ []))
    1 ((0 ∷ 0 ∷ []) ∷ []) ≡ Some []
trimmed = simp places

-- a failed read
failed : judged from_sector_0 (asked 6 Read 1 1) [] None
    ≡ Some (found Eio 1 6 Read (Dm 0) (sectors 1 1) None None ∷ [])
failed = simp places
