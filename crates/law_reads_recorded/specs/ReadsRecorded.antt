-- What reads have recorded in each run of a fine scenario, and what they answer.
use Rattle.std.specs.Prelude.{◌≡◌, ℕ, ◌+◌, ◌<◌, Bool, true, false, List, [], ◌∷◌, ◌++◌, Some, None}
use Rattle.std.specs.Prelude.{length, replicate, slice_get, unwrap_or, if◌then◌else◌}
use Rattle.lab_sector.specs.declared.request.Kind.TheVariants.{Read}
use Rattle.lab_target.specs.Meaning.{Meaning}
use Rattle.lab_model.specs.declared.event.Event.{Event}
use Rattle.lab_model.specs.declared.piece.Piece.{Piece}
use Rattle.lab_model.specs.After.{After, Next}
use Rattle.lab_model.specs.Answers.{Failed, Gave, answered}
use Rattle.lab_model.specs.Bios.{Bio, Entering, Held, InFlight, Stage, stage_failed}
use Rattle.lab_model.specs.declared.parent.Parent.TheVariants.{FromBio}
use Rattle.lab_model.specs.Effect.{IsRun, effect}
use Rattle.lab_model.specs.Guard.{is_enabled}
use Rattle.lab_model.specs.Scenario.{Scenario}
use Rattle.lab_model.specs.Sectors.{Sectors}
use Rattle.lab_model.specs.State.{State, bio_of}
use Rattle.lab_rulebook.specs.Accepted.{Accepted}
use Rattle.lab_rulebook.specs.Parts.{Parts}
use Rattle.lab_rulebook.specs.Read.{WellRead}
use Rattle.lab_rulebook.specs.Walked.{scenario_of}
use Rattle.law_answered_once.specs.AnsweredOnce.{is_answer_to}
use Rattle.lab_model.specs.Fine.{Fine}
use Rattle.law_reads_recorded.specs.Recorded.{Records, records_of, span_has}

-- whether a bio's pieces are under way
abbrev pub is_in_flight : Stage → Bool
is_in_flight Entering = false
is_in_flight (Held due holder) = false
is_in_flight (InFlight failed buffer) = true

-- a buffer has the bytes that a bio has recorded, and zero bytes where nothing is recorded yet
pub record IsBuffer (records : Records) (number : ℕ) (bio : Bio) (buffer : Sectors) : Type 0 where
  pub size : length buffer ≡ bio.span.len
  pub each : (place : ℕ) → place < bio.span.len → slice_get buffer place
      ≡ Some (unwrap_or (records number (bio.span.first + place)) (replicate 512 0))

-- a living bio that was made for a piece of another owes it the piece's sectors
pub record IsOwed {S : Type 0} (s : State S) (number sector : ℕ) : Type 0 where
  pub child : ℕ
  pub bio : Bio
  pub piece : Piece
  pub lives : bio_of s child ≡ Some bio
  pub is_piece : bio.parent ≡ FromBio number piece
  pub covers : span_has piece.span sector ≡ true

-- each sector of a bio is recorded, and these are its bytes
pub record IsAllOf (records : Records) (number : ℕ) (bio : Bio) (sectors : Sectors) : Type 0 where
  pub size : length sectors ≡ bio.span.len
  pub each : (place : ℕ) (bytes : List ℕ) → slice_get sectors place ≡ Some bytes
      → records number (bio.span.first + place) ≡ Some bytes

-- a bio is answered: that it failed if a piece has, else with all that is recorded
pub record AnswersSo {S : Type 0} (s : State S) (number : ℕ) (bio : Bio) (after : After S)
    (records : Records) : Type 0 where
  pub sectors : Sectors
  pub is : after
      ≡ Next (answered s number bio (if stage_failed bio.stage then Failed else Gave sectors))
  pub all : stage_failed bio.stage ≡ false → IsAllOf records number bio sectors

-- before a bio is in flight it has recorded nothing, nor has one that isn't made yet
pub record HasNothingBefore {S : Type 0} (s : State S) (records : Records) : Type 0 where
  pub entering : (number : ℕ) (bio : Bio) → bio_of s number ≡ Some bio
      → is_in_flight bio.stage ≡ false → (sector : ℕ) → records number sector ≡ None
  pub unmade : (number : ℕ) → length s.bios < number → (sector : ℕ)
      → records number sector ≡ None

-- so in each run of a scenario
abbrev pub NothingBeforeIn : {S : Type 0} → Meaning S → Scenario S → Type 0
NothingBeforeIn {S} m c = (events : List Event) (s : State S)
    → IsRun m c events s → HasNothingBefore s (records_of m c events)

-- in each fine scenario
abbrev pub NothingBefore : {S : Type 0} → Meaning S → Type 0
NothingBefore {S} m = (c : Scenario S) → Fine m c → NothingBeforeIn m c

-- the buffer of each read in flight has what the read has recorded
abbrev pub BuffersAreRecordsIn : {S : Type 0} → Meaning S → Scenario S → Type 0
BuffersAreRecordsIn {S} m c = (events : List Event) (s : State S)
    → IsRun m c events s → (number : ℕ) (bio : Bio) → bio_of s number ≡ Some bio
    → bio.kind ≡ Read → (failed : Bool) (buffer : Sectors) → bio.stage ≡ InFlight failed buffer
    → IsBuffer (records_of m c events) number bio buffer

-- so in each fine scenario
abbrev pub BuffersAreRecords : {S : Type 0} → Meaning S → Type 0
BuffersAreRecords {S} m = (c : Scenario S) → Fine m c → BuffersAreRecordsIn m c

-- a sector of a read in flight that isn't recorded yet is owed to it, as long as no piece has
-- failed
abbrev pub RestIsOwedIn : {S : Type 0} → Meaning S → Scenario S → Type 0
RestIsOwedIn {S} m c = (events : List Event) (s : State S)
    → IsRun m c events s → (number : ℕ) (bio : Bio) → bio_of s number ≡ Some bio
    → bio.kind ≡ Read → (buffer : Sectors) → bio.stage ≡ InFlight false buffer
    → (sector : ℕ) → span_has bio.span sector ≡ true
    → records_of m c events number sector ≡ None → IsOwed s number sector

-- so in each fine scenario
abbrev pub RestIsOwed : {S : Type 0} → Meaning S → Type 0
RestIsOwed {S} m = (c : Scenario S) → Fine m c → RestIsOwedIn m c

-- a read that is answered without a failure has recorded each of its sectors, and answers with them
abbrev pub AnswersAreRecordsIn : {S : Type 0} → Meaning S → Scenario S → Type 0
AnswersAreRecordsIn {S} m c = (events : List Event) (s : State S)
    → IsRun m c events s → (event : Event) → is_enabled c s event ≡ true
    → (number : ℕ) (bio : Bio) → is_answer_to number event ≡ true → bio_of s number ≡ Some bio
    → bio.kind ≡ Read
    → AnswersSo s number bio (effect m c s event) (records_of m c (events ++ event ∷ []))

-- so in each fine scenario
abbrev pub AnswersAreRecords : {S : Type 0} → Meaning S → Type 0
AnswersAreRecords {S} m = (c : Scenario S) → Fine m c → AnswersAreRecordsIn m c

-- all of it in one scenario
pub record ReadsAreRecordsIn {S : Type 0} (m : Meaning S) (c : Scenario S) : Type 0 where
  pub before : NothingBeforeIn m c
  pub buffers : BuffersAreRecordsIn m c
  pub owed : RestIsOwedIn m c
  pub answers : AnswersAreRecordsIn m c

-- so in each accepted scenario
abbrev pub AcceptedReadsAreRecords : {S : Type 0} → Meaning S → Type 0
AcceptedReadsAreRecords {S} m = (parts : Parts S) → WellRead m parts → Accepted m parts
    → ReadsAreRecordsIn m (scenario_of m parts)
