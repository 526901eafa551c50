-- Places where the machine's definition (lab_model) gives a default without a word, and what
-- excludes each (this project's own). E is `EventsFind`, P `ParentsFly`, L `PiecesNameLines`.
--
-- After, where_there: an event changes nothing where what it names isn't there. It is used for a
--   log's plan, state and next line (E, LineFinds), the bio of a Map, Serve or Finish (E), the
--   script's step (E, Control), and the moment that the clock goes on to (E, Clock).
-- Lists, change and change_numbered: a place past the end changes nothing, and inside: nor does an
--   empty one. It is used for the log or the bio that is told an answer (P), the bio that is
--   answered, released or sent off (E), a log that takes a line (E), the device whose bio is
--   judged (E, MapFinds), and the line that judges a piece (L). A step of the script changes a
--   device and a line only where it found them, and is wrong elsewhere.
-- Answers, recorded_at: a bio that isn't in flight records nothing (P, BioWaits: it has a lower
--   number than its child, so it isn't the one that is gone, and it flies).
-- DiskEffect, serve and finish: nothing changes for a bio at a mapped device, or that isn't
--   in flight (E, ServeFinds and FinishFinds). with_sectors: a disk that isn't there stays so (E).
-- MapEffect, map_bio: nothing changes for a bio at a disk (E, MapFinds). judgement_by: a piece of a
--   line that isn't there fails (L). child_sectors: sectors past the end of what the bio writes are
--   left out (E, MapFinds: it has as many as its span; L: its pieces are inside that).
-- Tables, placed: a piece before its line's start counts from 0 (L, PieceInside).
-- Pieces, line_number and block_at: a sector of no line is of the first, and of block 0 (E,
--   MapFinds: the table has no gap, and the bio's sectors; L: each piece is within the line that
--   it names).
-- Sectors, part and put: sectors past the end are left out (E, ServeFinds).
-- Guard, slot_runs: a held bio goes on where its holder isn't there (E, ReleaseFinds: it is). What
--   else isn't found there lets no event come. logs_ended, and the report's and the potential's
--   pairs of logs: logs without a partner are left out (law_answered_once: as many logs stand as
--   the scenario has).
-- State, answers_in: a log that isn't there has no answers (P, LogWaits).
-- Owner, origin_within: a bio without a parent, or too far below its log, is of no log (P: each
--   parent lives, and has a lower number).
--
-- Nothing is said here of the room that a bio in flight has for what its pieces' bios are told
-- (Answers, put; that is law_needs_met's), of the place of a mark (Sectors, marked_by; MapEffect,
-- mark_in; the targets' laws keep it inside its piece), and of Cost, Below, Walk and Scenario's
-- versions_of, which are numbers and tables of no event.
use Rattle.std.specs.Prelude.{◌≡◌, ℕ, ◌+◌, ◌<◌, ◌≤◌, Bool, true, List, [], ◌∷◌, Some}
use Rattle.std.specs.Prelude.{length, nat_le, slice_get}
use Rattle.lab_sector.specs.declared.device.DevNo.TheVariants.{Ram, Dm}
use Rattle.lab_sector.specs.declared.request.Kind.{Kind}
use Rattle.lab_sector.specs.declared.request.Kind.TheVariants.{Flush, Write}
use Rattle.lab_sector.specs.declared.span.Span.{Span}
use Rattle.lab_target.specs.Meaning.{Meaning}
use Rattle.lab_model.specs.declared.event.Event.{Event}
use Rattle.lab_model.specs.declared.event.Event.TheVariants.{Line, Map, Serve, Release, Finish}
use Rattle.lab_model.specs.declared.event.Event.TheVariants.{Control, Clock}
use Rattle.lab_model.specs.declared.micro.Micro.{Micro}
use Rattle.lab_model.specs.declared.piece.Piece.{Piece}
use Rattle.lab_model.specs.declared.table_line.TableLine.{TableLine}
use Rattle.lab_model.specs.Bios.{Bio, Held, InFlight}
use Rattle.lab_model.specs.declared.parent.Parent.{Parent}
use Rattle.lab_model.specs.declared.parent.Parent.TheVariants.{FromLog, FromBio}
use Rattle.lab_model.specs.Effect.{IsRun}
use Rattle.lab_model.specs.Guard.{is_enabled, next_moment}
use Rattle.lab_model.specs.Lists.{numbered}
use Rattle.lab_model.specs.MapEffect.{fits_table, table_judged}
use Rattle.lab_model.specs.Pieces.{pieces}
use Rattle.lab_model.specs.Scenario.{LogPlan, Scenario}
use Rattle.lab_model.specs.declared.plan.LogLine.{LogLine}
use Rattle.lab_model.specs.Sectors.{Sectors}
use Rattle.lab_model.specs.Slots.{slot_at}
use Rattle.lab_model.specs.State.{LogState, Slot, State, bio_of, disk_of}
use Rattle.lab_model.specs.Tables.{HasNoGap, Table, end_of}
use Rattle.lab_model.specs.Fine.{Fine}
use Rattle.lab_rulebook.specs.Accepted.{Accepted}
use Rattle.lab_rulebook.specs.Parts.{Parts}
use Rattle.lab_rulebook.specs.Read.{WellRead}
use Rattle.lab_rulebook.specs.Walked.{scenario_of}

-- a log's event finds the log, how far it has come, and the line that it takes next
pub record LineFinds {S : Type 0} (c : Scenario S) (s : State S) (number : ℕ) : Type 0 where
  pub plan : LogPlan
  pub log : LogState
  pub line : LogLine
  pub is_plan : numbered c.logs number ≡ Some plan
  pub is_log : numbered s.logs number ≡ Some log
  pub is_line : slice_get plan.lines log.taken ≡ Some line

-- a bio that is judged lives, is at a mapped device, and finds it with a live table that has its
-- sectors, each in a line since there is no gap; a write has as many to write
pub record MapFinds {S : Type 0} (s : State S) (number : ℕ) : Type 0 where
  pub bio : Bio
  pub device : ℕ
  pub slot : Slot (Table S)
  pub table : Table S
  pub lives : bio_of s number ≡ Some bio
  pub at_device : bio.device ≡ Dm device
  pub stands : slot_at s.devices device ≡ Some slot
  pub is_live : slot.live ≡ Some table
  pub no_gap : HasNoGap 0 table
  pub inside : fits_table table bio.kind bio.span ≡ true
  pub fills : bio.kind ≡ Write → length bio.sectors ≡ bio.span.len

-- a bio that is served lives, is at a disk, and finds it with its sectors; a write has as many to
-- write
pub record ServeFinds {S : Type 0} (s : State S) (number : ℕ) : Type 0 where
  pub bio : Bio
  pub disk : ℕ
  pub sectors : Sectors
  pub lives : bio_of s number ≡ Some bio
  pub at_disk : bio.device ≡ Ram disk
  pub stands : disk_of s disk ≡ Some sectors
  pub inside : nat_le (end_of bio.kind bio.span) (length sectors) ≡ true
  pub fills : bio.kind ≡ Write → length bio.sectors ≡ bio.span.len

-- a bio that goes on lives, and is held by a device that stands
pub record ReleaseFinds {S : Type 0} (s : State S) (number : ℕ) : Type 0 where
  pub bio : Bio
  pub due : ℕ
  pub holder : ℕ
  pub slot : Slot (Table S)
  pub lives : bio_of s number ≡ Some bio
  pub is_held : bio.stage ≡ Held due holder
  pub stands : slot_at s.devices holder ≡ Some slot

-- a bio that is finished lives and is in flight
pub record FinishFinds {S : Type 0} (s : State S) (number : ℕ) : Type 0 where
  pub bio : Bio
  pub failed : Bool
  pub answered : Sectors
  pub lives : bio_of s number ≡ Some bio
  pub flies : bio.stage ≡ InFlight failed answered

-- what an event names is found
abbrev pub EventFinds : {S : Type 0} → Scenario S → State S → Event → Type 0
EventFinds c s (Line log) = LineFinds c s log
EventFinds c s (Map number) = MapFinds s number
EventFinds c s (Serve number) = ServeFinds s number
EventFinds c s (Release number) = ReleaseFinds s number
EventFinds c s (Finish number) = FinishFinds s number
EventFinds c s Control = (micro : Micro) × (slice_get c.micros s.done ≡ Some micro)
EventFinds c s Clock = (moment : ℕ) × (next_moment s ≡ Some moment)

-- a log that a bio answers to is there
pub record LogWaits {S : Type 0} (c : Scenario S) (s : State S) (number : ℕ) : Type 0 where
  pub plan : LogPlan
  pub log : LogState
  pub is_plan : numbered c.logs number ≡ Some plan
  pub is_log : numbered s.logs number ≡ Some log

-- a bio that another answers to has a lower number, lives, and is in flight at a mapped device,
-- whose live table has the line of the piece
pub record BioWaits {S : Type 0} (s : State S) (number parent : ℕ) (piece : Piece) : Type 0 where
  pub above : Bio
  pub failed : Bool
  pub answered : Sectors
  pub device : ℕ
  pub slot : Slot (Table S)
  pub table : Table S
  pub line : TableLine S
  pub earlier : parent < number
  pub lives : bio_of s parent ≡ Some above
  pub flies : above.stage ≡ InFlight failed answered
  pub at_device : above.device ≡ Dm device
  pub stands : slot_at s.devices device ≡ Some slot
  pub is_live : slot.live ≡ Some table
  pub is_line : slice_get table piece.line ≡ Some line

-- whom a bio answers to waits for it
abbrev pub ParentWaits : {S : Type 0} → Scenario S → State S → ℕ → Parent → Type 0
ParentWaits c s number (FromLog log line action) = LogWaits c s log
ParentWaits c s number (FromBio parent piece) = BioWaits s number parent piece

-- a piece has sectors, all of them the line's and the bio's
pub record PieceInside {S : Type 0} (line : TableLine S) (whole piece : Span) : Type 0 where
  pub some : 0 < piece.len
  pub starts : line.start ≤ piece.first
  pub ends : piece.first + piece.len ≤ line.start + line.len
  pub from : whole.first ≤ piece.first
  pub within : piece.first + piece.len ≤ whole.first + whole.len

-- the sectors of a piece are within its line; a flush's piece has none
abbrev pub PieceWithin : {S : Type 0} → Kind → TableLine S → Span → Span → Type 0
PieceWithin Flush line whole piece = piece ≡ record { first = 0; len = 0 }
PieceWithin _ line whole piece = PieceInside line whole piece

-- a piece names a line of the table, and sectors within that line
pub record NamesLine {S : Type 0} (table : Table S) (kind : Kind) (whole : Span) (piece : Piece)
    : Type 0 where
  pub line : TableLine S
  pub is_line : slice_get table piece.line ≡ Some line
  pub within : PieceWithin kind line whole piece.span

-- each of some pieces names a line of the table that judges it, which those before it have changed
abbrev pub EachNamesLine : {S : Type 0} → Meaning S → Kind → Span → ℕ → Table S → List Piece
    → Type 0
EachNamesLine m kind whole now table [] = Unit {0}
EachNamesLine m kind whole now table (piece ∷ more) = NamesLine table kind whole piece
    × EachNamesLine m kind whole now (table_judged m kind now table piece) more

-- each event that may come finds what it names
abbrev pub FindsEvents : {S : Type 0} → Scenario S → State S → Type 0
FindsEvents c s = (event : Event) → is_enabled c s event ≡ true → EventFinds c s event

-- whom each living bio answers to waits for it
abbrev pub FindsParents : {S : Type 0} → Scenario S → State S → Type 0
FindsParents c s = (number : ℕ) (bio : Bio) → bio_of s number ≡ Some bio
    → ParentWaits c s number bio.parent

-- each piece of a living bio at a mapped device names a line of the live table, and sectors there
abbrev pub FindsLines : {S : Type 0} → Meaning S → State S → Type 0
FindsLines {S} m s = (number : ℕ) (bio : Bio) (device : ℕ) (slot : Slot (Table S))
    (table : Table S) → bio_of s number ≡ Some bio → bio.device ≡ Dm device
    → slot_at s.devices device ≡ Some slot → slot.live ≡ Some table
    → EachNamesLine m bio.kind bio.span s.clock table (pieces m table bio.kind bio.span)

-- after each run of a fine scenario, what an event that may come names is found
abbrev pub EventsFind : {S : Type 0} → Meaning S → Type 0
EventsFind {S} m = (c : Scenario S) → Fine m c → (events : List Event) (s : State S)
    → IsRun m c events s → FindsEvents c s

-- after each run of a fine scenario, an answer finds the log or the waiting bio that it goes to
abbrev pub ParentsFly : {S : Type 0} → Meaning S → Type 0
ParentsFly {S} m = (c : Scenario S) → Fine m c → (events : List Event) (s : State S)
    → IsRun m c events s → FindsParents c s

-- after each run of a fine scenario, each piece is judged by a line that is there and has it
abbrev pub PiecesNameLines : {S : Type 0} → Meaning S → Type 0
PiecesNameLines {S} m = (c : Scenario S) → Fine m c → (events : List Event) (s : State S)
    → IsRun m c events s → FindsLines m s

-- all three hold after each run of an accepted scenario
abbrev pub AcceptedFindsAll : {S : Type 0} → Meaning S → Type 0
AcceptedFindsAll {S} m = (parts : Parts S) → WellRead m parts → Accepted m parts
    → (events : List Event) (s : State S) → IsRun m (scenario_of m parts) events s
    → FindsEvents (scenario_of m parts) s × FindsParents (scenario_of m parts) s
    × FindsLines m s
