-- What is told of an operation's answer, and what is known once a bio is answered (this project's
-- own).
use Rattle.std.specs.Prelude.{ℕ, List, [], Option, Some, if◌then◌else◌}
use Rattle.lab_sector.specs.declared.request.Kind.{Kind}
use Rattle.lab_sector.specs.declared.request.Kind.TheVariants.{Read, Write, Trim}
use Rattle.lab_model.specs.declared.event.Event.{Event}
use Rattle.lab_model.specs.declared.event.Event.TheVariants.{Serve, Finish}
use Rattle.lab_model.specs.State.{State, bio_of}
use Rattle.lab_next.specs.declared.writer.Writer.{Writer}
use Rattle.lab_next.specs.Answering.{kind_answered, kind_if_own, number_answered}
use Rattle.lab_next.specs.Bios.{sectors_in}
use Rattle.lab_watch.specs.Grids.{cleared, writers_in}
use Rattle.lab_watch.specs.Known.{Known}

-- for each of so many sectors of the operation that the bio of a number issued, in order: of a read
-- who wrote what it is answered, of a write or a trim it itself, where a line dropped it; of others
-- nothing is told
abbrev pub writers_told : Known → ℕ → ℕ → Option Kind → List (Option Writer)
writers_told known number count (Some Read) = writers_in known.reads number 0 count
writers_told known number count (Some Write) = writers_in known.drops number 0 count
writers_told known number count (Some Trim) = writers_in known.drops number 0 count
writers_told known number count _ = []

-- what is told of the operation of a log that an event answers without a failure, sector by sector
abbrev pub told : {S : Type 0} → State S → Event → Known → List (Option Writer)
told s event known = writers_told known (number_answered event)
    (sectors_in (bio_of s (number_answered event))) (kind_answered s event)

-- nothing is kept of the read of a number, of so many sectors
abbrev pub without_read : Known → ℕ → ℕ → Known
without_read known number count =
    if known.kept.reads then record known { reads = cleared known.reads number 0 count } else known

-- nothing is kept of the write or the trim of a number, of so many sectors
abbrev pub without_drops : Known → ℕ → ℕ → Known
without_drops known number count =
    if known.kept.drops then record known { drops = cleared known.drops number 0 count } else known

-- the bio of a number, of so many sectors, is answered, of this kind where a log issued it
abbrev pub known_answered_by : Known → ℕ → ℕ → Option Kind → Known
known_answered_by known number count (Some Read) = without_read known number count
known_answered_by known number count (Some Write) = without_drops known number count
known_answered_by known number count (Some Trim) = without_drops known number count
known_answered_by known number count _ = known

-- the bio of a number is answered
abbrev pub known_answered : {S : Type 0} → State S → Known → ℕ → Known
known_answered s known number =
    known_answered_by known number (sectors_in (bio_of s number)) (kind_if_own (bio_of s number))

-- what is known once an event's bio is answered, in the state in which the event comes: nothing is
-- kept of an operation
abbrev pub settled : {S : Type 0} → State S → Event → Known → Known
settled s (Serve number) known = known_answered s known number
settled s (Finish number) known = known_answered s known number
settled s _ known = known
