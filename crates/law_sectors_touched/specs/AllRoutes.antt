-- Where the lines that hold a sector on an operation's way pass what they refer to, as linear and
-- delay do, it touches each of its routes just so often (this project's own).
use Rattle.std.specs.Prelude.{◌≡◌, ℕ, ◌+◌, ◌-◌, ◌<◌, Bool, true, List, Some, None, length}
use Rattle.std.specs.Prelude.{slice_get}
use Rattle.lab_sector.specs.declared.device.DevNo.{DevNo}
use Rattle.lab_sector.specs.declared.device.DevNo.TheVariants.{Dm}
use Rattle.lab_sector.specs.declared.request.Kind.{Kind}
use Rattle.lab_sector.specs.declared.span.Span.{Span}
use Rattle.lab_target.specs.declared.verdict.Ref.{Ref}
use Rattle.lab_target.specs.declared.verdict.Verdict.{Verdict}
use Rattle.lab_target.specs.declared.verdict.Verdict.TheVariants.{Pass}
use Rattle.lab_target.specs.Laws.{IsPiece}
use Rattle.lab_target.specs.Meaning.{Meaning, Shape}
use Rattle.lab_model.specs.declared.event.Event.{Event}
use Rattle.lab_model.specs.declared.table_line.TableLine.{TableLine}
use Rattle.lab_model.specs.After.{Next}
use Rattle.lab_model.specs.Bios.{Bio}
use Rattle.lab_model.specs.Scenario.{Scenario}
use Rattle.lab_model.specs.Slots.{slot_at}
use Rattle.lab_model.specs.State.{Slot, State, bio_of}
use Rattle.lab_model.specs.Tables.{Table, line_at}
use Rattle.lab_model.specs.Fine.{Fine}
use Rattle.lab_rulebook.specs.Accepted.{Accepted}
use Rattle.lab_rulebook.specs.Parts.{Parts}
use Rattle.lab_rulebook.specs.Read.{WellRead}
use Rattle.lab_rulebook.specs.Walked.{scenario_of}
use Rattle.law_headline.specs.Routes.{DiskSector, OnItsWay, TouchesRoutesIn, routes, times, touched}

-- a piece passes where there is a reference
abbrev pub IsPassing : {S : Type 0} → Shape S → Kind → Verdict → Type 0
IsPassing shape kind (Pass device span hold marks) = Unit {0}
IsPassing shape kind verdict = shape.reference kind ≡ None

-- whatever becomes of a target, it passes each piece of a kind that it has a reference for
abbrev pub PassesOn : {S : Type 0} → Meaning S → Kind → S → Type 0
PassesOn {S} m kind t = (later : S) → m.shape later ≡ m.shape t → (piece : Span) (now : ℕ)
    → IsPiece kind piece → IsPassing (m.shape later) kind (m.verdict later kind piece now)

-- the line of the live table of a device that holds a sector of it
pub record HoldingLine {S : Type 0} (s : State S) (device sector : ℕ) (line : TableLine S)
    : Type 0 where
  pub slot : Slot (Table S)
  pub table : Table S
  pub number : ℕ
  pub stands : slot_at s.devices device ≡ Some slot
  pub is_live : slot.live ≡ Some table
  pub holds : line_at table sector ≡ Some number
  pub is_line : slice_get table number ≡ Some line

-- a way is a set of sectors of devices: all lines that hold a sector on it pass what they refer to,
-- and it leads on to the sector that stands for it there
pub record WayPasses {S : Type 0} (m : Meaning S) (s : State S) (kind : Kind)
    (way : DevNo → ℕ → Bool) : Type 0 where
  pub leads : (device sector : ℕ) (line : TableLine S) (ref : Ref)
      → way (Dm device) sector ≡ true → HoldingLine s device sector line
      → (m.shape line.target).reference kind ≡ Some ref
      → way ref.dev (ref.first + (sector - line.start)) ≡ true
  pub passes : (device sector : ℕ) (line : TableLine S) → way (Dm device) sector ≡ true
      → HoldingLine s device sector line → PassesOn m kind line.target

-- all sectors of a bio are on a way
abbrev pub IsOnWay : (DevNo → ℕ → Bool) → Bio → Type 0
IsOnWay way bio = (place : ℕ) → place < bio.span.len
    → way bio.device (bio.span.first + place) ≡ true

-- once an operation is answered whose sectors are on such a way, it has touched each disk sector
-- just as often as it is the route of one of its own
abbrev pub TouchesAllRoutesIn : {S : Type 0} → Meaning S → Scenario S → Type 0
TouchesAllRoutesIn {S} m c = (log : ℕ) (before : List Event)
    (s begun : State S) (bio : Bio) (events : List Event) (end : State S)
    → OnItsWay m c log before s begun bio events end
    → (way : DevNo → ℕ → Bool) → WayPasses m begun bio.kind way → IsOnWay way bio
    → bio_of end (length begun.bios) ≡ None → (sector : DiskSector)
    → times sector (touched m c (Next begun) (length begun.bios) events)
    ≡ times sector (routes m begun bio)

-- so it is in each fine scenario
abbrev pub TouchesAllRoutes : {S : Type 0} → Meaning S → Type 0
TouchesAllRoutes {S} m = (c : Scenario S) → Fine m c → TouchesAllRoutesIn m c

-- in each accepted scenario an operation touches its routes alone
abbrev pub AcceptedTouchesRoutes : {S : Type 0} → Meaning S → Type 0
AcceptedTouchesRoutes {S} m = (parts : Parts S) → WellRead m parts → Accepted m parts
    → TouchesRoutesIn m (scenario_of m parts)

-- and all of them, where the lines on its way pass what they refer to
abbrev pub AcceptedTouchesAllRoutes : {S : Type 0} → Meaning S → Type 0
AcceptedTouchesAllRoutes {S} m = (parts : Parts S) → WellRead m parts → Accepted m parts
    → TouchesAllRoutesIn m (scenario_of m parts)
