-- The routes of sectors through stacked tables, and what an operation touches on disks (dm-linear).
use Rattle.std.specs.Prelude.{◌≡◌, ◌≢◌, ℕ, suc, zero, ◌+◌, ◌-◌, ◌≤◌, ◌==◌, ◌&&◌, Bool, true}
use Rattle.std.specs.Prelude.{false, List, [], ◌∷◌, ◌++◌, Option, Some, None, count_by, length}
use Rattle.std.specs.Prelude.{map, slice_get, if◌then◌else◌}
use Rattle.std.specs.List.{filter_map, range_with_len}
use Rattle.std.specs.Option.{option_and_then}
use Rattle.lab_sector.specs.declared.device.DevNo.{DevNo}
use Rattle.lab_sector.specs.declared.device.DevNo.TheVariants.{Ram, Dm}
use Rattle.lab_sector.specs.declared.request.Kind.{Kind}
use Rattle.lab_sector.specs.declared.request.Kind.TheVariants.{Flush}
use Rattle.lab_target.specs.declared.verdict.Ref.{Ref}
use Rattle.lab_target.specs.Meaning.{Meaning}
use Rattle.lab_model.specs.declared.event.Event.{Event}
use Rattle.lab_model.specs.declared.event.Event.TheVariants.{Line, Serve}
use Rattle.lab_model.specs.declared.table_line.TableLine.{TableLine}
use Rattle.lab_model.specs.After.{After, Next, Wrong}
use Rattle.lab_model.specs.Bios.{Bio}
use Rattle.lab_model.specs.declared.parent.Parent.TheVariants.{FromBio, FromLog}
use Rattle.lab_model.specs.declared.parent.Parent.{Parent}
use Rattle.lab_model.specs.Effect.{IsRun, Leads, effect}
use Rattle.lab_model.specs.Guard.{is_enabled}
use Rattle.lab_model.specs.Owner.{parent_of}
use Rattle.lab_model.specs.Scenario.{Scenario}
use Rattle.lab_model.specs.Slots.{slot_at}
use Rattle.lab_model.specs.State.{State, bio_of}
use Rattle.lab_model.specs.Tables.{Table, line_at}
use Rattle.lab_model.specs.Fine.{Fine}
use Rattle.law_slots.specs.WalkIsKept.{is_control}

-- a sector of a disk
pub record DiskSector : Type 0 where
  pub disk : ℕ
  pub sector : ℕ

-- the sector that a reference gives in place of a line's sector
abbrev pub partner : {S : Type 0} → TableLine S → ℕ → Ref → DevNo × ℕ
partner line sector ref = (ref.dev, ref.first + (sector - line.start))

-- where a line sends a sector of its device, if it refers to anything for the kind
abbrev pub partner_by : {S : Type 0} → Meaning S → Kind → ℕ → Option (TableLine S)
    → Option (DevNo × ℕ)
partner_by m kind sector None = None
partner_by m kind sector (Some line) =
    option_and_then (λ ref. Some (partner line sector ref)) ((m.shape line.target).reference kind)

-- where a live table sends a sector of its device
abbrev pub partner_in : {S : Type 0} → Meaning S → Kind → ℕ → Table S → Option (DevNo × ℕ)
partner_in m kind sector table = option_and_then
    (λ number. partner_by m kind sector (slice_get table number)) (line_at table sector)

-- where a mapped device sends a sector, if it stands and has a live table
abbrev pub partner_of : {S : Type 0} → Meaning S → State S → Kind → ℕ → ℕ → Option (DevNo × ℕ)
partner_of m s kind device sector = option_and_then
    (λ slot. option_and_then (partner_in m kind sector) slot.live) (slot_at s.devices device)

-- the route of a sector, of so many steps at most: it is itself on a disk, else the route of its
-- partner
abbrev pub route_within : {S : Type 0} → Meaning S → State S → ℕ → Kind → DevNo → ℕ
    → Option DiskSector
route_within m s steps kind (Ram number) sector =
    Some (record { disk = number; sector = sector })
route_within m s zero kind (Dm device) sector = None
route_within m s (suc steps) kind (Dm device) sector = option_and_then
    (λ place. route_within m s steps kind place.0 place.1) (partner_of m s kind device sector)

-- the route of a sector: no chain is longer than there are devices
abbrev pub route : {S : Type 0} → Meaning S → State S → Kind → DevNo → ℕ → Option DiskSector
route m s kind device sector = route_within m s (length s.devices) kind device sector

-- the routes of a bio's sectors
abbrev pub routes : {S : Type 0} → Meaning S → State S → Bio → List DiskSector
routes m s bio = filter_map (λ place. route m s bio.kind bio.device (bio.span.first + place))
    (range_with_len 0 bio.span.len)

-- whether a bio is one of a number or was made for a piece of it, over so many generations
abbrev pub descends_within : {S : Type 0} → State S → ℕ → ℕ → Option Parent → Bool
descends_within s number steps None = false
descends_within s number steps (Some (FromLog log line action)) = false
descends_within s number zero (Some (FromBio parent piece)) = parent == number
descends_within s number (suc steps) (Some (FromBio parent piece)) =
    if parent == number then true else descends_within s number steps (parent_of s parent)

-- whether the bio of a number is another one, or one of its pieces' bios
abbrev pub descends : {S : Type 0} → State S → ℕ → ℕ → Bool
descends s number other = if other == number then true
    else descends_within s number other (parent_of s other)

-- the sectors that a disk serves for a bio that is there
abbrev pub served_sectors : Option Bio → DevNo → List DiskSector
served_sectors None device = []
served_sectors (Some bio) (Dm device) = []
served_sectors (Some bio) (Ram disk) =
    map (λ sector. record { disk = disk; sector = sector })
    (range_with_len bio.span.first bio.span.len)

-- the same by the bio's own device
abbrev pub serves : Option Bio → List DiskSector
serves None = []
serves (Some bio) = served_sectors (Some bio) bio.device

-- the disk sectors that an event touches for the bio of a number
abbrev pub touched_by : {S : Type 0} → State S → ℕ → Event → List DiskSector
touched_by s number (Serve other) =
    if descends s number other then serves (bio_of s other) else []
touched_by s number event = []

-- the disk sectors that events touch for the bio of a number, one after another
abbrev pub touched : {S : Type 0} → Meaning S → Scenario S → After S → ℕ → List Event
    → List DiskSector
touched m c after number [] = []
touched m c (Wrong cause) number (event ∷ events) = []
touched m c (Next s) number (event ∷ events) =
    touched_by s number event ++ touched m c (effect m c s event) number events

-- whether two disk sectors are one
abbrev pub same_sector : DiskSector → DiskSector → Bool
same_sector a b = (a.disk == b.disk) && (a.sector == b.sector)

-- how often a disk sector is among some
abbrev pub times : DiskSector → List DiskSector → ℕ
times sector sectors = count_by (same_sector sector) sectors

-- a log makes a bio that reads, writes or trims, and no event of the script comes after it among
-- these
pub record OnItsWay {S : Type 0} (m : Meaning S) (c : Scenario S) (log : ℕ) (before : List Event)
    (s begun : State S) (bio : Bio) (events : List Event) (end : State S) : Type 0 where
  pub run : IsRun m c before s
  pub may : is_enabled c s (Line log) ≡ true
  pub begins : effect m c s (Line log) ≡ Next begun
  pub is_new : length begun.bios ≡ length s.bios + 1
  pub made : bio_of begun (length begun.bios) ≡ Some bio
  pub is_sized : bio.kind ≢ Flush
  pub quiet : count_by is_control events ≡ 0
  pub leads : Leads m c begun events end

-- the serves of an operation and of its pieces' bios touch each disk sector at most as often as it is
-- the route of one of the operation's sectors
abbrev pub TouchesRoutesIn : {S : Type 0} → Meaning S → Scenario S → Type 0
TouchesRoutesIn {S} m c = (log : ℕ) (before : List Event)
    (s begun : State S) (bio : Bio) (events : List Event) (end : State S)
    → OnItsWay m c log before s begun bio events end → (sector : DiskSector)
    → times sector (touched m c (Next begun) (length begun.bios) events)
    ≤ times sector (routes m begun bio)

-- so it is in each fine scenario
abbrev pub TouchesRoutes : {S : Type 0} → Meaning S → Type 0
TouchesRoutes {S} m = (c : Scenario S) → Fine m c → TouchesRoutesIn m c
