-- What the bios of a run have recorded: a map from the sectors that were answered so far to their
-- bytes. It is said of the run's events; no buffer has a part in it (this project's own).
use Rattle.std.specs.Prelude.{ℕ, ◌+◌, ◌-◌, ◌/◌, ◌%◌, ◌==◌, ◌&&◌, Bool, true, false, nat_le, nat_lt, option_map}
use Rattle.std.specs.Prelude.{List, [], ◌∷◌, Option, Some, None, slice_get, slice_set}
use Rattle.std.specs.Prelude.{if◌then◌else◌, replicate}
use Rattle.lab_sector.specs.declared.device.DevNo.{DevNo}
use Rattle.lab_sector.specs.declared.device.DevNo.TheVariants.{Ram, Dm}
use Rattle.lab_sector.specs.declared.request.Kind.{Kind}
use Rattle.lab_sector.specs.declared.request.Kind.TheVariants.{Read}
use Rattle.lab_sector.specs.declared.span.Span.{Span}
use Rattle.lab_target.specs.declared.verdict.Mark.{Mark}
use Rattle.lab_target.specs.declared.verdict.Marks.{Marks}
use Rattle.lab_target.specs.declared.verdict.Verdict.{Verdict}
use Rattle.lab_target.specs.declared.verdict.Verdict.TheVariants.{Zeroes}
use Rattle.lab_target.specs.Meaning.{Meaning}
use Rattle.lab_model.specs.declared.event.Event.{Event}
use Rattle.lab_model.specs.declared.event.Event.TheVariants.{Map, Serve, Finish}
use Rattle.lab_model.specs.declared.piece.Piece.{Piece}
use Rattle.lab_model.specs.After.{After, Next, Wrong}
use Rattle.lab_model.specs.Bios.{Bio, InFlight, Stage}
use Rattle.lab_model.specs.declared.parent.Parent.TheVariants.{FromBio, FromLog}
use Rattle.lab_model.specs.declared.parent.Parent.{Parent}
use Rattle.lab_model.specs.Effect.{effect}
use Rattle.lab_model.specs.MapEffect.{Judgement, judgements}
use Rattle.lab_model.specs.Pieces.{pieces}
use Rattle.lab_model.specs.Scenario.{Scenario}
use Rattle.lab_model.specs.Sectors.{Sectors}
use Rattle.lab_model.specs.Slots.{slot_at}
use Rattle.lab_model.specs.State.{Slot, State, bio_of, disk_of, opening}
use Rattle.lab_model.specs.Tables.{Table}

-- by the number of a bio and a sector of its device, the bytes that were answered for it
abbrev pub Records : Type 0
Records = ℕ → ℕ → Option (List ℕ)

-- nothing is recorded of any bio
abbrev pub nothing_recorded : Records
nothing_recorded = λ number sector. None

-- the records in which the bio of a number has these
abbrev pub with_record : Records → ℕ → (ℕ → Option (List ℕ)) → Records
with_record records number own =
    λ other sector. if other == number then own sector else records other sector

-- whether a span has a sector
abbrev pub span_has : Span → ℕ → Bool
span_has span sector = nat_le span.first sector && nat_lt sector (span.first + span.len)

-- the bytes of a sector after a mark: one of them is replaced, if the mark is in this sector; its
-- place is counted from the first byte of the piece, and the sector from the piece's first
abbrev pub sector_marked_by : Option Mark → ℕ → List ℕ → List ℕ
sector_marked_by None place bytes = bytes
sector_marked_by (Some mark) place bytes =
    if mark.place / 512 == place then slice_set bytes (mark.place % 512) mark.value else bytes

-- after both marks, the fixed one first
abbrev pub sector_marked : Marks → ℕ → List ℕ → List ℕ
sector_marked marks place bytes =
    sector_marked_by marks.random place (sector_marked_by marks.fixed place bytes)

-- what a piece's bio tells of a sector of the piece: what it has recorded, after its own marks
abbrev pub told_of_piece : Records → ℕ → Bio → Piece → ℕ → Option (List ℕ)
told_of_piece records number child piece sector =
    option_map (sector_marked child.marks (sector - piece.span.first))
    (records number (child.span.first + (sector - piece.span.first)))

-- a bio is answered without a failure: where it was made for a piece of another, that one records
-- at the piece's sectors what it tells
abbrev pub told_up : Records → ℕ → Bio → Parent → Records
told_up records number child (FromLog log line action) = records
told_up records number child (FromBio above piece) = with_record records above
    (λ sector. if span_has piece.span sector then told_of_piece records number child piece sector
    else records above sector)

-- whether a piece reads as zeroes
abbrev pub is_zeroes : Verdict → Bool
is_zeroes Zeroes = true
is_zeroes _ = false

-- what is recorded as soon as pieces are judged: zero bytes for those that read as zeroes
abbrev pub zeroes_in : List Judgement → ℕ → Option (List ℕ)
zeroes_in [] sector = None
zeroes_in (j ∷ more) sector =
    if is_zeroes j.verdict && span_has j.piece.span sector then Some (replicate 512 0)
    else zeroes_in more sector

-- the live table of a device, if it stands and has one
abbrev pub live_of : {S : Type 0} → Option (Slot (Table S)) → Option (Table S)
live_of None = None
live_of (Some slot) = slot.live

-- the judgements of a bio's pieces by a table that is there
abbrev pub judged_with : {S : Type 0} → Meaning S → ℕ → Bio → Option (Table S) → List Judgement
judged_with m now bio None = []
judged_with m now bio (Some table) =
    judgements m bio.kind now table (pieces m table bio.kind bio.span)

-- the judgements of a bio's pieces at its device
abbrev pub judged_at : {S : Type 0} → Meaning S → State S → Bio → DevNo → List Judgement
judged_at m s bio (Ram disk) = []
judged_at m s bio (Dm device) = judged_with m s.clock bio (live_of (slot_at s.devices device))

-- the records after a bio that is there is judged
abbrev pub after_map : {S : Type 0} → Meaning S → State S → Records → ℕ → Option Bio → Records
after_map m s records number None = records
after_map m s records number (Some bio) =
    with_record records number (zeroes_in (judged_at m s bio bio.device))

-- the bytes of a disk at a sector of a span
abbrev pub disk_bytes : Option Sectors → Span → ℕ → Option (List ℕ)
disk_bytes None span sector = None
disk_bytes (Some sectors) span sector = if span_has span sector then slice_get sectors sector else None

-- the disk that a device is
abbrev pub disk_at : {S : Type 0} → State S → DevNo → Option Sectors
disk_at s (Ram disk) = disk_of s disk
disk_at s (Dm device) = None

-- a read that a disk serves records the disk's bytes
abbrev pub read_from : {S : Type 0} → State S → Records → ℕ → Bio → Kind → Records
read_from s records number bio Read =
    with_record records number (disk_bytes (disk_at s bio.device) bio.span)
read_from s records number bio _ = records

-- the records after a disk serves a bio that is there
abbrev pub after_serve : {S : Type 0} → State S → Records → ℕ → Option Bio → Records
after_serve s records number None = records
after_serve s records number (Some bio) =
    told_up (read_from s records number bio bio.kind) number bio bio.parent

-- the records after a bio is finished; one that has failed tells nothing
abbrev pub after_finish_at : Records → ℕ → Bio → Stage → Records
after_finish_at records number bio (InFlight failed buffer) =
    if failed then records else told_up records number bio bio.parent
after_finish_at records number bio stage = records

-- the same of a bio that is there
abbrev pub after_finish : Records → ℕ → Option Bio → Records
after_finish records number None = records
after_finish records number (Some bio) = after_finish_at records number bio bio.stage

-- the records after an event
abbrev pub recording : {S : Type 0} → Meaning S → State S → Records → Event → Records
recording m s records (Map number) = after_map m s records number (bio_of s number)
recording m s records (Serve number) = after_serve s records number (bio_of s number)
recording m s records (Finish number) = after_finish records number (bio_of s number)
recording m s records event = records

-- the records after events, one after another
abbrev pub recorded_from : {S : Type 0} → Meaning S → Scenario S → After S → Records → List Event
    → Records
recorded_from m c after records [] = records
recorded_from m c (Wrong cause) records (event ∷ events) = records
recorded_from m c (Next s) records (event ∷ events) =
    recorded_from m c (effect m c s event) (recording m s records event) events

-- what the bios of a run have recorded; what an answered one had recorded stays
abbrev pub records_of : {S : Type 0} → Meaning S → Scenario S → List Event → Records
records_of m c events = recorded_from m c (Next (opening c)) nothing_recorded events
