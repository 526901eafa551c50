-- How the devices of the walk stand along a script. What stands along an accepted script, and the
-- steps from one command to the next.
use Rattle.lab_model.proofs.Common.{rules, ◌≡◌, ℕ, Option, Some, None, IfSome, refl, ◌≤◌, Meaning}
use Rattle.lab_model.proofs.Common.{Shape, with_mode, Scenario, Slot, Table, size_of, Devices}
use Rattle.lab_model.proofs.Common.{version_image, LinesStandIn, SlotStands, TableStands}
use Rattle.lab_model.specs.declared.phase.Phase.{Phase}
use Rattle.lab_model.proofs.Common.{live_size, slot_at, List, ◌∷◌, ◌++◌, Contains, subst, []}
use Rattle.lab_model.proofs.Common.{None-not-Some, In-slice_get, Dm, DevNo, Below, devices_under}
use Rattle.lab_model.proofs.Common.{ever_under, version_of, image, walk_order, FineFrom}
use Rattle.lab_model.specs.declared.phase.Phase.TheVariants.{Before}
use Rattle.lab_model.proofs.Common.{IsThere, OrderFine, PlaceFine, phase_after}
use Rattle.lab_model.proofs.Common.{In, In-Contains, option_map-holds}
use Rattle.lab_model.specs.declared.micro.Mode.TheVariants.{Draining}
use Rattle.lab_model.specs.declared.micro.Mode.{Mode}
use Rattle.lab_rulebook.proofs.SizeLemmas.{Grows, KeepsUnder, table-moves, DisksStay, inside-there}
use Rattle.lab_model.specs.declared.micro.Micro.{Micro}
use Rattle.lab_model.specs.declared.micro.Order.{Order}
use Rattle.lab_script.specs.Steps.{on_line}
use Rattle.lab_rulebook.specs.Standing.{Standing}
use Rattle.lab_rulebook.proofs.ReferenceLemmas.{Stays, refers-ever}
use Rattle.lab_model.specs.Below.{direct, through}
use Rattle.lab_model.specs.Fine.{live_under, under_live}
use Rattle.std.specs.Option.{option_and_then}

-- a device grows at most where its live table stays
pub grows-live : {L : Type 0} (slot later : Slot (Table L)) → later.live ≡ slot.live
    → Grows slot later
grows-live slot later same = search rules

-- and where nothing changes
pub grows-same : {L : Type 0} (slot : Slot (Table L)) → Grows slot slot
grows-same slot = grows-live slot slot refl

module _ {S : Type 0} (m : Meaning S) (c : Scenario S) where
  -- a device may hold a table: it stands, and it is a version of the device
  pub record Holds (devices : Devices S) (device : ℕ) (table : Table (Shape S)) : Type 0 where
    pub stands : TableStands c devices table
    pub version : (version : ℕ) × (version_image m c device version ≡ Some table)

  -- a device as it may stand, among these: it holds its tables, an inactive one makes it no
  -- shorter, and it doesn't drain
  pub record SlotFine (devices : Devices S) (device : ℕ) (slot : Slot (Table (Shape S))) : Type 0
    where
      pub live : IfSome slot.live (Holds devices device)
      pub inactive : IfSome slot.inactive (Holds devices device)
      pub longer : IfSome slot.inactive (λ table. live_size slot.live ≤ size_of table)
      pub rests : slot.mode ≡ Draining → ⊥

  -- so its tables stand, in each mode
  pub slot-stands : (devices : Devices S) (device : ℕ) (slot : Slot (Table (Shape S)))
      (mode : Mode) → SlotFine devices device slot → SlotStands c devices (with_mode mode slot)
  slot-stands devices device slot mode fine = search rules

  -- all devices stand so along the script
  abbrev pub DevicesFine : Devices S → Type 0
  DevicesFine devices = (number : ℕ) (slot : Slot (Table (Shape S)))
      → slot_at devices number ≡ Some slot → SlotFine devices number slot

  -- the devices, and the log lines in this phase, before each command of an accepted script
  pub record StandIn (among : Devices S) (phase : Phase) : Type 0 where
    pub devices : DevicesFine among
    pub lines : LinesStandIn c among phase

  -- a device may hold a table as before where what that refers to is kept
  pub holds-moves : (before after : Devices S) (device : ℕ) (o : Option (Table (Shape S)))
      → ((table : Table (Shape S)) → o ≡ Some table → KeepsUnder c before after table)
      → IfSome o (Holds before device) → IfSome o (Holds after device)
  holds-moves before after device None keeps held = tt
  holds-moves before after device (Some table) keeps held = search (rules, table-moves)

-- and the table is that of a device that stands
slot-under : {S : Type 0} (o : Option (Slot (Table (Shape S)))) (below : DevNo)
    → In below (under_live (option_and_then (λ slot. slot.live) o))
    → (slot : Slot (Table (Shape S))) × (table : Table (Shape S))
    × (o ≡ Some slot) × (slot.live ≡ Some table) × In below (devices_under table)
slot-under o below has = search rules

module _ {S : Type 0} (m : Meaning S) (c : Scenario S) where
  -- what stands before each command of an accepted script
  abbrev pub Stands : Standing S → Type 0
  Stands s = StandIn m c s.devices s.phase

  -- what stands before a command is still known at the end
  pub record Later (s : Standing S) : Type 0 where
    pub versions : Stays s.versions c.versions
    pub disks : DisksStay s.disks c.disks
    pub logs : (s.phase ≡ Before → ⊥) → s.logs ≡ c.logs

  -- the steps of a command lead from one standing to the next
  abbrev pub Leads : Standing S → Standing S → List Order → Type 0
  Leads s next steps = (number : ℕ) (rest : List Micro)
      → FineFrom m c next.phase next.devices rest
      → FineFrom m c s.phase s.devices (on_line number steps ++ rest)

  -- what stands next is as it should be, and the steps lead there
  pub record Goes (s next : Standing S) (steps : List Order) : Type 0 where
    pub stands : Stands next
    pub leads : Leads s next steps

  -- a place between two commands
  pub place-fine : (s : Standing S) → Stands s → (Except : ℕ → Type 0)
      → PlaceFine c s.devices s.phase Except
  place-fine s stands Except = record {
    tables = λ number slot there.
        slot-stands m c s.devices number slot slot.mode (stands.devices number slot there);
    lines = stands.lines;
    rest = λ number slot there mode. absurd ((stands.devices number slot there).rests mode);
  }

  -- one step
  pub one-step : (s : Standing S) → Stands s → (line : ℕ) (order : Order) (rest : List Micro)
      → OrderFine c s.devices s.phase order rest
      → FineFrom m c (phase_after s.phase order) (walk_order m c s.devices order) rest
      → FineFrom m c s.phase s.devices (record { line = line; order = order } ∷ rest)
  one-step s stands line order rest may more = search (rules, place-fine)

  -- so a step that may come leads to what stands after it
  pub step-goes : (s next : Standing S) → Stands s → Stands next → (order : Order)
      → ((rest : List Micro) → OrderFine c s.devices s.phase order rest)
      → next.phase ≡ phase_after s.phase order → next.devices ≡ walk_order m c s.devices order
      → Goes s next (order ∷ [])
  step-goes s next stands after order may phase devices = record {
    stands = after;
    leads = λ number rest more. one-step s stands number order rest (may rest)
        (search rules);
  }

  module _ (devices : Devices S) (all_fine : DevicesFine m c devices) where
    -- what is right under a device stands, and a version of the device refers to it
    under-both : (device below : ℕ) → Contains (live_under devices device) (Dm below)
        → IsThere devices below × Contains (ever_under m c.versions device) (Dm below)
    under-both device below has =
        let (slot, table, there, is_live, under) = slot-under (slot_at devices device) (Dm below)
        (In-Contains (Dm below) (live_under devices device) has) in
        let held : Holds m c devices device table =
        subst (λ o. IfSome o (Holds m c devices device)) is_live
        (all_fine device slot there).live in
        let version = held.version.0 in
        let own = option_map-holds (image m) (version_of c device version) table held.version.1 in (
          inside-there c.disks devices table held.stands.inside below under,
          search (rules, refers-ever, None-not-Some, In-slice_get, In),
        )

    -- so what is reachable stands, and lies below
    pub reachable : {device below : ℕ} → Below (live_under devices) device below
        → IsThere devices below × Below (ever_under m c.versions) device below
    reachable (direct {device = device} {below = below} has) =
        let both = under-both device below has in (both.0, direct both.1)
    reachable (through {device = device} {next = next} has lower) =
        let rest = reachable lower in
        (rest.0, through (under-both device next has).1 rest.1)
