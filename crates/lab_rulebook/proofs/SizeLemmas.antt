-- What a table or a log's line finds at a place of the walk it finds where the devices that it
-- names are no shorter.
use Rattle.lab_model.proofs.Common.{rules, ◌≡◌, ℕ, ◌+◌, ◌≤◌, List, [], ◌∷◌, Option, Some, None}
use Rattle.lab_model.proofs.Common.{slice_get, refl, sym, subst, ◌∙◌, slice_get-map, DevNo, Dm}
use Rattle.lab_model.proofs.Common.{Kind, Meaning, Shape, Ref, Scenario, Slot, HasNoGap}
use Rattle.lab_model.specs.declared.plan.DiskPlan.{DiskPlan}
use Rattle.lab_model.proofs.Common.{Table, image, with_target, Devices, HasTable, IsThere, LineOn}
use Rattle.lab_model.proofs.Common.{Reaches, TableStands, live_size, size_at}
use Rattle.lab_model.proofs.Common.{slot_at, devices_under, In, option_map-holds, arith, nat_tests}
use Rattle.lab_model.specs.declared.entry.Entry.{Entry}
use Rattle.lab_model.specs.declared.table_line.TableLine.{TableLine}
use Rattle.lab_model.specs.Fine.{entry_end}
use Rattle.lab_model.specs.declared.entry.Entry.TheVariants.{Wait}
use Rattle.lab_rulebook.proofs.ReferenceLemmas.{refers-under, under-each}
use Rattle.std.specs.Prelude.{find, option_map, ◌==◌}

-- what isn't out of reach is within it
pub reaches-stable : (size : Option ℕ) (end : ℕ) → ((Reaches size end → ⊥) → ⊥) → Reaches size end
reaches-stable size end possible = search rules

-- a device within which something is stands
pub reaches-there : {L : Type 0} (o : Option (Slot (Table L))) (end : ℕ)
    → Reaches (option_map (λ slot. live_size slot.live) o) end
    → (slot : Slot (Table L)) × (o ≡ Some slot)
reaches-there o end reaches = search rules

-- each reference of a table is inside the device that it names
abbrev pub IsInside : {S : Type 0} → List DiskPlan → Devices S → Table (Shape S) → Type 0
IsInside {S} disks devices table =
    (number : ℕ) (line : TableLine (Shape S)) (kind : Kind) (ref : Ref)
    → slice_get table number ≡ Some line → line.target.reference kind ≡ Some ref
    → Reaches (size_at disks devices ref.dev) (ref.first + line.len)

-- so each device under it stands
pub inside-there : {S : Type 0} (disks : List DiskPlan) (devices : Devices S)
    (table : Table (Shape S)) → IsInside disks devices table → (below : ℕ)
    → In (Dm below) (devices_under table) → IsThere devices below
inside-there disks devices table inside below has =
    under-each table (λ device. device ≡ Dm below → IsThere devices below)
    (λ number line kind ref is_line refers is.
    reaches-there (slot_at devices below) (ref.first + line.len)
    (subst (λ d. Reaches (size_at disks devices d) (ref.first + line.len)) is
    (inside number line kind ref is_line refers))) (Dm below) has refl

-- an image has no gap where the table has none
pub image-no_gap : {S : Type 0} (m : Meaning S) (start : ℕ) (table : Table S)
    → HasNoGap start table → HasNoGap start (image m table)
image-no_gap m start [] no_gap = tt
image-no_gap m s (line ∷ lines) gap = (gap.0, gap.1, image-no_gap m (s + line.len) lines gap.2)

-- a line of the image is the image of a line
pub line-of-image : {S : Type 0} (m : Meaning S) (table : Table S) (number : ℕ)
    (line : TableLine (Shape S)) → slice_get (image m table) number ≡ Some line
    → (own : TableLine S) × (slice_get table number ≡ Some own)
    × (with_target m.shape own ≡ line)
line-of-image m table number line has =
    option_map-holds (with_target m.shape) (slice_get table number) line
    (sym (slice_get-map (with_target m.shape) table number) ∙ has)

-- a device is at least as long as before, and has a table where it had one
pub record Grows {L : Type 0} (slot later : Slot (Table L)) : Type 0 where
  pub size : live_size slot.live ≤ live_size later.live
  pub table : (live : Table L) → slot.live ≡ Some live
      → (new : Table L) × (later.live ≡ Some new)

-- an entry of the devices stays, and grows at most
abbrev pub GrowsIn : {L : Type 0} → Option (Slot (Table L)) → Option (Slot (Table L)) → Type 0
GrowsIn {L} was now = (slot : Slot (Table L)) → was ≡ Some slot
    → (later : Slot (Table L)) × (now ≡ Some later) × Grows slot later

module _ {S : Type 0} (c : Scenario S) (before after : Devices S) where
  -- what is within a device stays so, and its table stands
  pub record KeepsDevice (device : DevNo) : Type 0 where
    pub size : (end : ℕ) → Reaches (size_at c.disks before device) end
        → Reaches (size_at c.disks after device) end
    pub table : HasTable before device → HasTable after device

  -- a table's references are to devices that are kept
  abbrev pub KeepsUnder : Table (Shape S) → Type 0
  KeepsUnder table = (named : DevNo) → In named (devices_under table) → KeepsDevice named

  -- so it stands
  pub table-moves : (table : Table (Shape S)) → KeepsUnder table → TableStands c before table
      → TableStands c after table
  table-moves table keeps stands = record {
    no_gap = stands.no_gap;
    inside = λ number line kind ref is_line refers.
        (keeps ref.dev (refers-under table number line kind ref is_line refers)).size
        (ref.first + line.len) (stands.inside number line kind ref is_line refers);
  }

  -- a line finds its device where that is kept
  pub line-moves : (device : Option DevNo) (entry : Entry)
      → ((named : DevNo) → device ≡ Some named → KeepsDevice named)
      → LineOn c before device entry → LineOn c after device entry
  line-moves device (Wait time) keeps on = tt
  line-moves None _ keeps on = on
  line-moves (Some named) entry keeps on =
      ((keeps named refl).size (entry_end entry) on.0, (keeps named refl).table on.1)

-- the size of the disk of a number, if it is declared
abbrev disk_size : ℕ → List DiskPlan → Option ℕ
disk_size number disks =
    option_map (λ disk. disk.size) (find (λ disk. disk.number == number) disks)

-- a disk that is declared stays so, with its size
abbrev pub DisksStay : List DiskPlan → List DiskPlan → Type 0
DisksStay disks later = (number size : ℕ) → disk_size number disks ≡ Some size
    → disk_size number later ≡ Some size

-- so what is inside a device stays so
pub reaches-later : {S : Type 0} (disks later : List DiskPlan) → DisksStay disks later
    → (devices : Devices S) (device : DevNo) (end : ℕ)
    → Reaches (size_at disks devices device) end → Reaches (size_at later devices device) end
reaches-later disks later stay devices device end reaches = grind (arith, nat_tests)
