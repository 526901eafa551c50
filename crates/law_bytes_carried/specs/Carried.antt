-- What an operation carries: each of its sectors is served once, at its route, and these are the
-- bytes that it moves.
use Rattle.std.specs.Prelude.{◌≡◌, ℕ, suc, zero, ◌+◌, ◌-◌, ◌==◌, Bool, true, false, List, []}
use Rattle.std.specs.Prelude.{◌∷◌, ◌++◌, Option, Some, None, length, slice_get, unwrap_or}
use Rattle.std.specs.Prelude.{if◌then◌else◌}
use Rattle.std.specs.List.{filter_map, range_with_len}
use Rattle.std.specs.Option.{option_and_then}
use Rattle.lab_sector.specs.declared.device.DevNo.{DevNo}
use Rattle.lab_sector.specs.declared.device.DevNo.TheVariants.{Ram, Dm}
use Rattle.lab_sector.specs.declared.request.Kind.TheVariants.{Write, Trim}
use Rattle.lab_target.specs.Meaning.{Meaning}
use Rattle.lab_model.specs.declared.answer.Answer.{Answer}
use Rattle.lab_model.specs.declared.event.Event.{Event}
use Rattle.lab_model.specs.declared.event.Event.TheVariants.{Serve}
use Rattle.lab_model.specs.declared.piece.Piece.{Piece}
use Rattle.lab_model.specs.After.{After, Next, Wrong}
use Rattle.lab_model.specs.Answers.{Gave, outcome_of}
use Rattle.lab_model.specs.Bios.{Bio}
use Rattle.lab_model.specs.declared.parent.Parent.TheVariants.{FromBio, FromLog}
use Rattle.lab_model.specs.declared.parent.Parent.{Parent}
use Rattle.lab_model.specs.Effect.{effect}
use Rattle.lab_model.specs.Owner.{parent_of}
use Rattle.lab_model.specs.Scenario.{Scenario}
use Rattle.lab_model.specs.Sectors.{Sectors, filled}
use Rattle.lab_model.specs.State.{State, answers_of, bio_of, disk_of}
use Rattle.lab_model.specs.Fine.{Fine}
use Rattle.lab_rulebook.specs.Accepted.{Accepted}
use Rattle.lab_rulebook.specs.Parts.{Parts}
use Rattle.lab_rulebook.specs.Read.{WellRead}
use Rattle.lab_rulebook.specs.Walked.{scenario_of}
use Rattle.law_headline.specs.Routes.{DiskSector, OnItsWay, descends, route}
use Rattle.law_sectors_touched.specs.AllRoutes.{IsOnWay}
use Rattle.law_bytes_carried.specs.Plain.{WayIsPlain}

-- the first sector of a bio that is there
abbrev pub first_sector : Option Bio → ℕ
first_sector None = 0
first_sector (Some bio) = bio.span.first

-- the place in a bio that stands above a place of the bio that was made for a piece of it; places
-- are sectors counted from the first of the bio
abbrev pub place_above : {S : Type 0} → State S → ℕ → Piece → ℕ → ℕ
place_above s parent piece place =
    (piece.span.first - first_sector (bio_of s parent)) + place

-- the place of an operation that a place stands for, over so many generations
abbrev pub stands_within : {S : Type 0} → State S → ℕ → ℕ → Option Parent → ℕ → ℕ
stands_within s number steps None place = place
stands_within s number steps (Some (FromLog log line action)) place = place
stands_within s number zero (Some (FromBio parent piece)) place = place_above s parent piece place
stands_within s number (suc steps) (Some (FromBio parent piece)) place = if parent == number
    then place_above s parent piece place
    else stands_within s number steps (parent_of s parent) (place_above s parent piece place)

-- the place of the operation of a number that a place of the bio of another number stands for
abbrev pub stands_for : {S : Type 0} → State S → ℕ → ℕ → ℕ → ℕ
stands_for s number other place = if other == number then place
    else stands_within s number other (parent_of s other) place

-- a sector of a disk, and its bytes
pub record Carried : Type 0 where
  pub sector : DiskSector
  pub bytes : List ℕ

-- the bytes that a disk has at a sector, if it has the sector
abbrev pub bytes_at : {S : Type 0} → State S → DiskSector → List ℕ
bytes_at s sector = unwrap_or
    (option_and_then (λ sectors. slice_get sectors sector.sector) (disk_of s sector.disk)) []

-- the same after an event
abbrev pub bytes_after : {S : Type 0} → After S → DiskSector → List ℕ
bytes_after (Wrong cause) sector = []
bytes_after (Next s) sector = bytes_at s sector

-- a place of a bio on a disk, if it stands for a place of the operation
abbrev pub carried_if : {S : Type 0} → After S → DiskSector → Bool → Option Carried
carried_if after sector true = Some (record { sector = sector; bytes = bytes_after after sector })
carried_if after sector false = None

-- the sectors of a bio that a disk serves for a place of an operation, with their bytes after that
abbrev pub carried_on : {S : Type 0} → State S → After S → ℕ → ℕ → ℕ → Bio → DevNo → List Carried
carried_on s after number place other bio (Dm device) = []
carried_on s after number place other bio (Ram disk) = filter_map
    (λ i. carried_if after (record { disk = disk; sector = bio.span.first + i })
    (stands_for s number other i == place)) (range_with_len 0 bio.span.len)

-- the same of a bio that is there
abbrev pub carried_at : {S : Type 0} → State S → After S → ℕ → ℕ → ℕ → Option Bio → List Carried
carried_at s after number place other None = []
carried_at s after number place other (Some bio) =
    carried_on s after number place other bio bio.device

-- the sectors that an event serves for a place of an operation, and its pieces' bios, each with
-- the bytes that the disk has there after it; a read changes none, so they are those that it reads
abbrev pub carried_by : {S : Type 0} → State S → After S → ℕ → ℕ → Event → List Carried
carried_by s after number place (Serve other) = if descends s number other
    then carried_at s after number place other (bio_of s other) else []
carried_by s after number place event = []

-- the sectors that events serve for a place of an operation, one after another
abbrev pub carried : {S : Type 0} → Meaning S → Scenario S → After S → ℕ → ℕ → List Event
    → List Carried
carried m c after number place [] = []
carried m c (Wrong cause) number place (event ∷ events) = []
carried m c (Next s) number place (event ∷ events) =
    carried_by s (effect m c s event) number place event
    ++ carried m c (effect m c s event) number place events

-- a place of an operation is served once, at its route, with these bytes
pub record ServedOnce {S : Type 0} (m : Meaning S) (c : Scenario S) (begun : State S) (bio : Bio)
    (events : List Event) (place : ℕ) (bytes : List ℕ) : Type 0 where
  pub sector : DiskSector
  pub is_route : route m begun bio.kind bio.device (bio.span.first + place) ≡ Some sector
  pub once : carried m c (Next begun) (length begun.bios) place events
      ≡ record { sector = sector; bytes = bytes } ∷ []

-- what an operation has moved: so many sectors; each was served once, at its route, with these
-- bytes; a write's are its own, and a trim's are zero bytes; and the next answer of its log is its
-- own, and tells a read's
pub record HasMoved {S : Type 0} (m : Meaning S) (c : Scenario S) (log : ℕ) (begun : State S)
    (bio : Bio) (events : List Event) (end : State S) : Type 0 where
  pub moved : Sectors
  pub size : length moved ≡ bio.span.len
  pub each : (place : ℕ) (bytes : List ℕ) → slice_get moved place ≡ Some bytes
      → ServedOnce m c begun bio events place bytes
  pub writes : bio.kind ≡ Write → moved ≡ bio.sectors
  pub trims : bio.kind ≡ Trim → moved ≡ filled bio.span.len 0
  pub answer : Answer
  pub answers : slice_get (answers_of end log) (length (answers_of begun log)) ≡ Some answer
  pub is_own : bio.parent ≡ FromLog log answer.line answer.action
  pub tells : answer.outcome ≡ outcome_of bio.kind (Gave moved)

-- once an operation is answered whose sectors are on a way of such lines, it has moved them so
abbrev pub CarriesItsBytesIn : {S : Type 0} → Meaning S → Scenario S → Type 0
CarriesItsBytesIn {S} m c = (log : ℕ) (before : List Event)
    (s begun : State S) (bio : Bio) (events : List Event) (end : State S)
    → OnItsWay m c log before s begun bio events end
    → (way : DevNo → ℕ → Bool) → WayIsPlain m begun bio.kind way → IsOnWay way bio
    → bio_of end (length begun.bios) ≡ None
    → HasMoved m c log begun bio events end

-- so it is in each fine scenario
abbrev pub CarriesItsBytes : {S : Type 0} → Meaning S → Type 0
CarriesItsBytes {S} m = (c : Scenario S) → Fine m c → CarriesItsBytesIn m c

-- and in each accepted one
abbrev pub AcceptedCarriesItsBytes : {S : Type 0} → Meaning S → Type 0
AcceptedCarriesItsBytes {S} m = (parts : Parts S) → WellRead m parts → Accepted m parts
    → CarriesItsBytesIn m (scenario_of m parts)
