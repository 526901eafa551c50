-- The rows of what stands on the disks give the bytes that the disks have, in every run.
--
-- Why it holds: each sector of a living write is known as a sector of a write of a log, with the
-- bytes of it that were changed on the way. A log's bio carries the fill of its line, and none of
-- its bytes is changed. A piece's bio carries its part of the bio above, with the bytes that the
-- line changed, each at its own place; where a byte is changed again, the last value counts, both
-- in the bytes and in what is known. A number is given to one bio only, so nothing of this changes
-- while the bio lives. Where a disk serves a write, its sectors have its bytes and are known as
-- its sectors are; where it serves a trim, they have zero bytes and nobody is known as their
-- writer. No other event changes a disk. And rows give each sector what is known to stand there.
use Rattle.std.specs.Prelude.{◌≡◌, ℕ, List, Some, replicate, slice_get}
use Rattle.lab_target.specs.Meaning.{Meaning}
use Rattle.lab_model.specs.Effect.{IsRun}
use Rattle.lab_model.specs.Fine.{Fine}
use Rattle.lab_model.specs.LogEffect.{fill_of}
use Rattle.lab_model.specs.Scenario.{Scenario}
use Rattle.lab_model.specs.Sectors.{Sectors}
use Rattle.lab_model.specs.State.{State, disk_of}
use Rattle.lab_model.specs.declared.event.Event.{Event}
use Rattle.lab_rulebook.specs.Accepted.{Accepted}
use Rattle.lab_rulebook.specs.Parts.{Parts}
use Rattle.lab_rulebook.specs.Read.{WellRead}
use Rattle.lab_rulebook.specs.Walked.{scenario_of}
use Rattle.lab_image.specs.Given.{Data, given_sector}
use Rattle.lab_image.specs.Stands.{rows_after}

-- the data that the definitions give to writes: 512 times the byte of the line
abbrev pub fills : Data
fills writer = replicate 512 (fill_of writer.origin.log writer.origin.line)

-- after each run of a scenario the rows give each sector of each disk the bytes that it has
abbrev pub RowsTellIn : {S : Type 0} → Meaning S → Scenario S → Type 0
RowsTellIn {S} m c = (events : List Event) (s : State S) → IsRun m c events s
    → (disk sector : ℕ) (sectors : Sectors) (bytes : List ℕ) → disk_of s disk ≡ Some sectors
    → slice_get sectors sector ≡ Some bytes
    → given_sector fills (rows_after m c events s) disk sector ≡ bytes

-- so it is in each fine scenario
abbrev pub RowsTell : {S : Type 0} → Meaning S → Type 0
RowsTell {S} m = (c : Scenario S) → Fine m c → RowsTellIn m c

-- and in each accepted one
abbrev pub AcceptedRowsTell : {S : Type 0} → Meaning S → Type 0
AcceptedRowsTell {S} m = (parts : Parts S) → WellRead m parts → Accepted m parts
    → RowsTellIn m (scenario_of m parts)
