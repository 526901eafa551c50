-- How each living bio stands where it stands, in every state of a run (this project's own).
use Rattle.std.specs.Prelude.{◌≡◌, ℕ, ◌<◌, ◌==◌, Bool, true, false, drop, length, Some, None}
use Rattle.std.specs.Prelude.{find, nat_le, option_map, slice_get}
use Rattle.lab_sector.specs.declared.device.DevNo.{DevNo}
use Rattle.lab_sector.specs.declared.device.DevNo.TheVariants.{Ram, Dm}
use Rattle.lab_sector.specs.declared.request.Kind.{Kind}
use Rattle.lab_sector.specs.declared.request.Kind.TheVariants.{Write}
use Rattle.lab_sector.specs.declared.span.Span.{Span}
use Rattle.lab_target.specs.declared.verdict.Ref.{Ref}
use Rattle.lab_target.specs.Laws.{shifted}
use Rattle.lab_target.specs.Meaning.{Meaning}
use Rattle.lab_model.specs.declared.entry.Action.{Action}
use Rattle.lab_model.specs.declared.entry.Entry.TheVariants.{Operate}
use Rattle.lab_model.specs.declared.micro.Mode.TheVariants.{Suspended}
use Rattle.lab_model.specs.declared.piece.Piece.{Piece}
use Rattle.lab_model.specs.declared.table_line.TableLine.{TableLine}
use Rattle.lab_model.specs.Bios.{Bio, Stage, Entering, Held, InFlight}
use Rattle.lab_model.specs.declared.parent.Parent.{Parent}
use Rattle.lab_model.specs.declared.parent.Parent.TheVariants.{FromLog, FromBio}
use Rattle.lab_model.specs.Guard.{has_flight, logs_ended}
use Rattle.lab_model.specs.Lists.{numbered}
use Rattle.lab_model.specs.LogEffect.{kind_of}
use Rattle.lab_model.specs.MapEffect.{fits_table}
use Rattle.lab_model.specs.Scenario.{LogPlan, Scenario}
use Rattle.lab_model.specs.declared.plan.LogLine.{LogLine}
use Rattle.lab_model.specs.Sectors.{Sectors}
use Rattle.lab_model.specs.Slots.{slot_at}
use Rattle.lab_model.specs.State.{LogState, Slot, State, bio_of, disk_of}
use Rattle.lab_model.specs.Tables.{Table, placed, end_of}
use Rattle.lab_model.specs.Walk.{devices_image}
use Rattle.lab_model.specs.Fine.{FilesFine, FineFrom, is_started}
use Rattle.lab_model.specs.declared.phase.Phase.TheVariants.{Before, Replayed, Waited}
use Rattle.lab_model.specs.declared.phase.Phase.{Phase}

-- the disk stands, and the operation's sectors are inside it
pub record FitsDisk {S : Type 0} (s : State S) (number : ℕ) (kind : Kind) (span : Span) : Type 0
  where
    pub sectors : Sectors
    pub stands : disk_of s number ≡ Some sectors
    pub inside : nat_le (end_of kind span) (length sectors) ≡ true

-- the mapped device stands with a live table, and the operation's sectors are inside it
pub record FitsMapped {S : Type 0} (s : State S) (number : ℕ) (kind : Kind) (span : Span) : Type 0
  where
    pub slot : Slot (Table S)
    pub table : Table S
    pub stands : slot_at s.devices number ≡ Some slot
    pub is_live : slot.live ≡ Some table
    pub inside : fits_table table kind span ≡ true

-- the device of an operation stands, and its sectors are inside it
abbrev pub FitsDevice : {S : Type 0} → State S → DevNo → Kind → Span → Type 0
FitsDevice s (Ram number) kind span = FitsDisk s number kind span
FitsDevice s (Dm number) kind span = FitsMapped s number kind span

-- a bio of a log: a line that the log has taken asks for it
pub record FromLine {S : Type 0} (c : Scenario S) (s : State S) (bio : Bio) (log : ℕ)
    (action : Action) : Type 0 where
  pub plan : LogPlan
  pub place : ℕ
  pub line : LogLine
  pub is_log : numbered c.logs log ≡ Some plan
  pub is_line : slice_get plan.lines place ≡ Some line
  pub asks : line.entry ≡ Operate action bio.span
  pub on : line.device ≡ Some bio.device
  pub of_kind : bio.kind ≡ kind_of action

-- a child: its parent has a lower number and is in flight at a mapped device, the line of whose
-- live table that judged the piece refers to where the child goes
pub record FromPiece {S : Type 0} (m : Meaning S) (s : State S) (number : ℕ) (bio : Bio)
    (parent : ℕ) (piece : Piece) (device : ℕ) : Type 0 where
  pub above : Bio
  pub failed : Bool
  pub answered : Sectors
  pub slot : Slot (Table S)
  pub table : Table S
  pub line : TableLine S
  pub ref : Ref
  pub earlier : parent < number
  pub lives : bio_of s parent ≡ Some above
  pub flies : above.stage ≡ InFlight failed answered
  pub at_device : above.device ≡ Dm device
  pub same_kind : above.kind ≡ bio.kind
  pub stands : slot_at s.devices device ≡ Some slot
  pub is_live : slot.live ≡ Some table
  pub is_line : slice_get table piece.line ≡ Some line
  pub refers : (m.shape line.target).reference bio.kind ≡ Some ref
  pub goes_to : bio.device ≡ ref.dev
  pub shifts : bio.span ≡ shifted ref.first (placed bio.kind line piece.span)

-- a bio stands with whom it answers to
abbrev pub FitsParent : {S : Type 0} → Meaning S → Scenario S → State S → ℕ → Bio → Parent → Type 0
FitsParent m c s number bio (FromLog log line action) = FromLine c s bio log action
FitsParent m c s number bio (FromBio parent piece) =
    (device : ℕ) × FromPiece m s number bio parent piece device

-- a held bio is a piece's, and the device that cut it holds it
abbrev pub HeldBy : {S : Type 0} → Meaning S → State S → ℕ → Bio → Parent → ℕ → Type 0
HeldBy m s number bio (FromLog log line action) holder = ⊥
HeldBy m s number bio (FromBio parent piece) holder = FromPiece m s number bio parent piece holder

-- a bio stands with its holder, if it is held; in flight it is at a mapped device
abbrev pub FitsStage : {S : Type 0} → Meaning S → State S → ℕ → Bio → Stage → Type 0
FitsStage m s number bio Entering = Unit {0}
FitsStage m s number bio (Held due holder) = HeldBy m s number bio bio.parent holder
FitsStage m s number bio (InFlight failed answered) = (device : ℕ) × (bio.device ≡ Dm device)

-- a living bio stands so
pub record FitsBio {S : Type 0} (m : Meaning S) (c : Scenario S) (s : State S) (number : ℕ)
    (bio : Bio) : Type 0 where
  pub device : FitsDevice s bio.device bio.kind bio.span
  pub parent : FitsParent m c s number bio bio.parent
  pub stage : FitsStage m s number bio bio.stage
  pub fills : bio.kind ≡ Write → length bio.sectors ≡ bio.span.len

-- all living bios stand so
abbrev pub FitsBios : {S : Type 0} → Meaning S → Scenario S → State S → Type 0
FitsBios m c s = (number : ℕ) (bio : Bio) → bio_of s number ≡ Some bio → FitsBio m c s number bio

-- each log's lines that are left may come with the files that it has
abbrev pub FitsFiles : {S : Type 0} → Scenario S → State S → Type 0
FitsFiles c s = (number : ℕ) (plan : LogPlan) (log : LogState)
    → numbered c.logs number ≡ Some plan → numbered s.logs number ≡ Some log
    → FilesFine log.files (drop log.taken plan.lines)

-- each disk has as many sectors as the scenario says
abbrev pub FitsDisks : {S : Type 0} → Scenario S → State S → Type 0
FitsDisks c s = (number : ℕ) → option_map length (disk_of s number)
    ≡ option_map (λ disk. disk.size) (find (λ disk. disk.number == number) c.disks)

-- no bio is in flight at a suspended device
abbrev pub IsQuiet : {S : Type 0} → State S → Type 0
IsQuiet {S} s = (device : ℕ) (slot : Slot (Table S)) → slot_at s.devices device ≡ Some slot
    → slot.mode ≡ Suspended → has_flight s device ≡ false

-- before the replay there is no bio, and after the wait all logs have ended and none lives
abbrev pub FitsPhase : {S : Type 0} → Scenario S → State S → Phase → Type 0
FitsPhase c s Before = (number : ℕ) → bio_of s number ≡ None
FitsPhase c s Replayed = Unit {0}
FitsPhase c s Waited = (logs_ended c s ≡ true) × ((number : ℕ) → bio_of s number ≡ None)

-- a state of a run of a fine scenario
pub record Fits {S : Type 0} (m : Meaning S) (c : Scenario S) (s : State S) : Type 0 where
  pub phase : Phase
  pub is_started : s.started ≡ is_started phase
  pub script : FineFrom m c phase (devices_image m s.devices) (drop s.done c.micros)
  pub in_phase : FitsPhase c s phase
  pub logs : length s.logs ≡ length c.logs
  pub files : FitsFiles c s
  pub disks : FitsDisks c s
  pub bios : FitsBios m c s
  pub quiet : IsQuiet s
