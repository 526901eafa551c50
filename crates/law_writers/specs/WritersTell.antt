-- What is known of who wrote what is what the bytes are.
--
-- Why it holds of disks: all that a write carries is one byte, that of its line, and so it is with
-- the bios of its pieces. So where a disk serves such a bio, the new bytes are the new writer's.
--
-- Why it holds of reads: a place of a log's read is carried by one living bio at most that isn't
-- in flight, and while one carries it nobody is known as its writer. Once a bio in flight has
-- recorded bytes for the place, no bio carries it any more, and the bytes are those of the writer
-- that is known. A bio that a disk serves isn't in flight, so it alone carries its places: what
-- becomes known of them changes nothing of what is recorded.
use Rattle.std.specs.Prelude.{◌≡◌, ℕ, true, List, Option, Some, length, slice_get}
use Rattle.std.specs.List.{concat}
use Rattle.lab_sector.specs.declared.request.Kind.TheVariants.{Read}
use Rattle.lab_text.specs.Runs.{runs_list}
use Rattle.lab_target.specs.Meaning.{Meaning}
use Rattle.lab_model.specs.After.{After, Next}
use Rattle.lab_model.specs.Answers.{Gave, answered, outcome_of}
use Rattle.lab_model.specs.Bios.{Bio}
use Rattle.lab_model.specs.Effect.{IsRun, effect}
use Rattle.lab_model.specs.Fine.{Fine}
use Rattle.lab_model.specs.Guard.{is_enabled}
use Rattle.lab_model.specs.Scenario.{Scenario}
use Rattle.lab_model.specs.Sectors.{Sectors}
use Rattle.lab_model.specs.State.{State, bio_of, disk_of}
use Rattle.lab_model.specs.declared.answer.Outcome.TheVariants.{Runs}
use Rattle.lab_model.specs.declared.event.Event.{Event}
use Rattle.lab_rulebook.specs.Accepted.{Accepted}
use Rattle.lab_rulebook.specs.Parts.{Parts}
use Rattle.lab_rulebook.specs.Read.{WellRead}
use Rattle.lab_rulebook.specs.Walked.{scenario_of}
use Rattle.lab_next.specs.Answering.{kind_answered, number_answered}
use Rattle.lab_next.specs.declared.writer.Writer.{Writer}
use Rattle.lab_watch.specs.Grids.{Grid, writer_at}
use Rattle.lab_watch.specs.Heard.{heard}
use Rattle.lab_watch.specs.Settled.{told}
use Rattle.lab_watch.specs.declared.kept.Kept.{Kept}
use Rattle.law_writers.specs.Followed.{known_of}
use Rattle.law_writers.specs.Unmarked.{IsPlainRun}
use Rattle.law_writers.specs.Wrote.{WroteBytes}

-- each sector of each disk has the bytes of the writer that is known of it
abbrev pub DisksAreWritten : {S : Type 0} → Scenario S → State S → Grid → Type 0
DisksAreWritten c s disks = (disk place : ℕ) (sectors : Sectors) (bytes : List ℕ)
    → disk_of s disk ≡ Some sectors → slice_get sectors place ≡ Some bytes
    → WroteBytes c (writer_at disks disk place) bytes

-- a read of a log is answered, each of its sectors with the bytes of the writer that is told of it
pub record AnswersWritten {S : Type 0} (c : Scenario S) (s : State S) (number : ℕ)
    (writers : List (Option Writer)) (after : After S) : Type 0 where
  pub bio : Bio
  pub lives : bio_of s number ≡ Some bio
  pub sectors : Sectors
  pub is : after ≡ Next (answered s number bio (Gave sectors))
  pub tells : outcome_of bio.kind (Gave sectors) ≡ Runs (runs_list (concat sectors))
  pub size : length sectors ≡ length writers
  pub each : (place : ℕ) (bytes : List ℕ) (writer : Option Writer)
      → slice_get sectors place ≡ Some bytes → slice_get writers place ≡ Some writer
      → WroteBytes c writer bytes

-- in each run of a scenario that changes no byte on the way, the bytes of each disk are those of the
-- writers that are known then
abbrev pub DisksTellIn : {S : Type 0} → Meaning S → Scenario S → Type 0
DisksTellIn {S} m c = (events : List Event) (s : State S)
    → IsRun m c events s → IsPlainRun m c events → (kept : Kept) → kept.reads ≡ true
    → DisksAreWritten c s (known_of m c kept events).disks

-- so it is in each fine scenario
abbrev pub DisksTell : {S : Type 0} → Meaning S → Type 0
DisksTell {S} m = (c : Scenario S) → Fine m c → DisksTellIn m c

-- after such a run, an event that answers a read of a log without a failure gives the log the
-- bytes of the writers that are told then
abbrev pub AnswersTellIn : {S : Type 0} → Meaning S → Scenario S → Type 0
AnswersTellIn {S} m c = (events : List Event) (s : State S)
    → IsRun m c events s → IsPlainRun m c events → (kept : Kept) → kept.reads ≡ true
    → (event : Event) → is_enabled c s event ≡ true → kind_answered s event ≡ Some Read
    → AnswersWritten c s (number_answered event)
    (told s event (heard s event (known_of m c kept events))) (effect m c s event)

-- so it is in each fine scenario
abbrev pub AnswersTell : {S : Type 0} → Meaning S → Type 0
AnswersTell {S} m = (c : Scenario S) → Fine m c → AnswersTellIn m c

-- both in one scenario
pub record WritersTellIn {S : Type 0} (m : Meaning S) (c : Scenario S) : Type 0 where
  pub disks : DisksTellIn m c
  pub answers : AnswersTellIn m c

-- so it is in each accepted scenario
abbrev pub AcceptedWritersTell : {S : Type 0} → Meaning S → Type 0
AcceptedWritersTell {S} m = (parts : Parts S) → WellRead m parts → Accepted m parts
    → WritersTellIn m (scenario_of m parts)
