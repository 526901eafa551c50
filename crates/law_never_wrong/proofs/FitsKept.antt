-- What stands at devices and what the walk has of them, by their images: what stands is on the
-- walk, what the walk has stands, and it goes on to stand where the images are as before: the
-- shapes of all targets, the sizes of all tables and the modes.
-- Names: FACT-kept for a fact of a state that holds of a next one.
use Rattle.lab_model.proofs.Common.{rules, arith, ◌≡◌, ℕ, List, [], ◌∷◌, Option, Some}
use Rattle.lab_model.proofs.Common.{slice_get, None, refl, sym, ap, ◌∙◌, option_map}
use Rattle.lab_model.proofs.Common.{option_and_then, Kind, Span, Meaning, Shape, IsThere}
use Rattle.lab_model.proofs.Common.{live_at, slot_at, Slot, State, Table, image, placed}
use Rattle.lab_model.proofs.Common.{with_target, devices_image, slot_image, option_map-holds}
use Rattle.lab_model.proofs.Common.{None-not-Some}
use Rattle.lab_model.specs.declared.table_line.TableLine.{TableLine}

-- where one option has a value, so has another of the same image, and the values' images are the
-- same
pub option_to-alike : {X Y : Type 0} (f : X → Y) (o other : Option X) (x : X)
    → option_map f other ≡ option_map f o → o ≡ Some x → (y : X) × (other ≡ Some y) × (f y ≡ f x)
option_to-alike f o other x same there = search rules

-- the image of a device stands at its place of the walk
pub walk_device-image : {S : Type 0} (m : Meaning S) (xs : List (Option (Slot (Table S)))) (n : ℕ)
    → slot_at (devices_image m xs) n ≡ option_map (slot_image m) (slot_at xs n)
walk_device-image m [] n = refl
walk_device-image m (entry ∷ xs) n = search (rules, walk_device-image m xs)

-- the image of a line stands at its place of the table's image
pub slice_get-image : {S : Type 0} (m : Meaning S) (table : Table S) (number : ℕ)
    → slice_get (image m table) number ≡ option_map (with_target m.shape) (slice_get table number)
slice_get-image m [] number = refl
slice_get-image m (line ∷ table) number = search (rules, slice_get-image m table)

-- a line of a table of the same image
pub line-kept : {S : Type 0} (m : Meaning S) (table other : Table S)
    → image m other ≡ image m table → (number : ℕ) (line : TableLine S)
    → slice_get table number ≡ Some line
    → (kept : TableLine S) × (slice_get other number ≡ Some kept)
    × (with_target m.shape kept ≡ with_target m.shape line)
line-kept m table other same number line there = option_to-alike (with_target m.shape)
    (slice_get table number) (slice_get other number) line
    (sym (slice_get-image m other number) ∙ ap (λ t. slice_get t number) same
    ∙ slice_get-image m table number) there

-- a live table of a device of the same image
pub live-kept : {S : Type 0} (m : Meaning S) (slot other : Slot (Table S))
    → slot_image m other ≡ slot_image m slot → (table : Table S) → slot.live ≡ Some table
    → (kept : Table S) × (other.live ≡ Some kept) × (image m kept ≡ image m table)
live-kept m slot other same table live = search rules

module _ {S : Type 0} (m : Meaning S) (s next : State S)
    (same : devices_image m next.devices ≡ devices_image m s.devices) where
  -- a device stands
  pub device-kept : (device : ℕ) (slot : Slot (Table S)) → slot_at s.devices device ≡ Some slot
      → (kept : Slot (Table S)) × (slot_at next.devices device ≡ Some kept)
      × (slot_image m kept ≡ slot_image m slot)
  device-kept d slot = option_to-alike (slot_image m) _ _ slot (search (rules, walk_device-image))

-- a device that stands, with a live table of this image
pub record Found {S : Type 0} (m : Meaning S) (s : State S) (device : ℕ)
    (seen : Table (Shape S)) : Type 0 where
  pub slot : Slot (Table S)
  pub table : Table S
  pub stands : slot_at s.devices device ≡ Some slot
  pub is_live : slot.live ≡ Some table
  pub same : image m table ≡ seen

-- where a piece lies in its line hangs on the line's start alone
pub placed-same : {S T : Type 0} (kind : Kind) (a : TableLine S) (b : TableLine T) (span : Span)
    → a.start ≡ b.start → placed kind a span ≡ placed kind b span
placed-same kind a b span same = grind arith

module _ {S : Type 0} (m : Meaning S) where
  -- a line of the image is the image of a line
  pub line-of-image : (table : Table S) (number : ℕ) (line : TableLine (Shape S))
      → slice_get (image m table) number ≡ Some line
      → (own : TableLine S) × (slice_get table number ≡ Some own) × (with_target m.shape own ≡ line)
  line-of-image table n l is = option_map-holds _ _ l (sym (slice_get-image m table n) ∙ is)

  -- a line's image is a line of the image
  pub image-of-line : (table : Table S) (number : ℕ) (line : TableLine S)
      → slice_get table number ≡ Some line
      → slice_get (image m table) number ≡ Some (with_target m.shape line)
  image-of-line table number line found = search (rules, slice_get-image)

  module _ (s : State S) where
    -- a device's image is there
    pub image-of-device : (device : ℕ) (slot : Slot (Table S))
        → slot_at s.devices device ≡ Some slot
        → slot_at (devices_image m s.devices) device ≡ Some (slot_image m slot)
    image-of-device device slot there =
        walk_device-image m s.devices device ∙ ap (option_map (slot_image m)) there

    -- the device of an image is there
    pub device-of-image : (device : ℕ) (seen : Slot (Table (Shape S)))
        → slot_at (devices_image m s.devices) device ≡ Some seen
        → (slot : Slot (Table S)) × (slot_at s.devices device ≡ Some slot)
        × (slot_image m slot ≡ seen)
    device-of-image d o is = option_map-holds _ _ o (sym (walk_device-image m s.devices d) ∙ is)

    -- a device that the walk has is there
    pub device-there : (device : ℕ) → IsThere (devices_image m s.devices) device
        → (slot : Slot (Table S)) × (slot_at s.devices device ≡ Some slot)
    device-there device stands = search (rules, device-of-image)

    -- a live table that the walk has is there
    pub table-there : (device : ℕ) (seen : Table (Shape S))
        → live_at (devices_image m s.devices) device ≡ Some seen → Found m s device seen
    table-there device seen live =
        by_entry (slot_at s.devices device) refl (rw (walk_device-image m s.devices device) at live)
      where
        by_entry : (o : Option (Slot (Table S))) → slot_at s.devices device ≡ o
            → option_and_then (λ slot. slot.live) (option_map (slot_image m) o) ≡ Some seen
            → Found m s device seen
        by_entry None is e = absurd (None-not-Some e)
        by_entry (Some slot) is e =
            let own = option_map-holds (image m) slot.live seen e in
            record { slot = slot; table = own.0; stands = is; is_live = own.1; same = own.2 }

    -- and a live table that is there the walk has
    pub table-seen : (device : ℕ) (slot : Slot (Table S)) (table : Table S)
        → slot_at s.devices device ≡ Some slot → slot.live ≡ Some table
        → live_at (devices_image m s.devices) device ≡ Some (image m table)
    table-seen d slot table stands live = rw (walk_device-image m s.devices d, stands, live)
