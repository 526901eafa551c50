-- The devices that stand, by their numbers. What stands, by its parts. Names: the part, and what it
-- is by.
use Rattle.lab_model.proofs.Common.{rules, ◌≡◌, ℕ, suc, zero, List, [], ◌∷◌, Option, ap, length}
use Rattle.lab_model.proofs.Common.{refl, slice_get, option_map, Meaning, option_flatten, slice_get-map}
use Rattle.lab_model.proofs.Common.{Table, slot_at, ◌||◌, Bool, map, Some, None, list_any, is_some}
use Rattle.lab_model.proofs.Common.{image, size_of-image, live_size, Slot}
use Rattle.lab_model.specs.State.{Slot as DeviceSlot}
use Rattle.lab_script.specs.Image.{plain}
use Rattle.lab_standing.specs.declared.standing.Standing.{Standing}
use Rattle.lab_standing.specs.Image.{devices_of, others_of, own_of, slot_of}
use Rattle.lab_standing.specs.Stands.{standing_of, stood}

-- a device has the versions of its number
pub walk-devices_of : {S : Type 0} (m : Meaning S) (slots : List (Option (DeviceSlot ℕ)))
    (versions : List (List (Table S))) (number : ℕ)
    → slot_at (devices_of m slots versions) number
    ≡ option_map (slot_of m (own_of versions number)) (option_flatten (slice_get slots number))
walk-devices_of m [] versions number = refl
walk-devices_of m (slot ∷ slots) versions zero = refl
walk-devices_of m (slot ∷ slots) versions (suc number) =
    walk-devices_of m slots (others_of versions) number

-- so a device that is kept stands with its tables
pub device-stands : {S : Type 0} (m : Meaning S) (s : Standing S) (number : ℕ)
    → slot_at (standing_of m s).devices number
    ≡ option_map (λ slot. slot_of m (own_of (standing_of m s).versions number) (plain slot))
    (option_flatten (slice_get s.walk.slots.items number))
unfolding stood
device-stands m s number = search (rules, walk-devices_of, slice_get-map)

-- there are as many devices as slots
pub length-devices_of : {S : Type 0} (m : Meaning S) (slots : List (Option (DeviceSlot ℕ)))
    (versions : List (List (Table S))) → length (devices_of m slots versions) ≡ length slots
length-devices_of m [] versions = refl
length-devices_of m (slot ∷ slots) versions = ap suc (length-devices_of m slots _)

-- a test of what f makes of the items
pub list_any-map : {X Y : Type 0} (p : Y → Bool) (f : X → Y) (xs : List X)
    → list_any p (map f xs) ≡ list_any (λ x. p (f x)) xs
list_any-map p f [] = refl
list_any-map p f (x ∷ xs) = ap (λ rest. p (f x) || rest) (list_any-map p f xs)

-- a device stands where its number has a slot
pub stands-slot : {S : Type 0} (m : Meaning S) (slots : List (Option (Slot ℕ)))
    (versions : List (List (Table S))) (number : ℕ)
    → is_some (slot_at (devices_of m slots versions) number)
    ≡ is_some (option_flatten (slice_get slots number))
stands-slot m [] versions number = refl
stands-slot m (None ∷ slots) versions zero = refl
stands-slot m (Some slot ∷ slots) versions zero = refl
stands-slot m (slot ∷ slots) versions (suc number) = stands-slot m slots (others_of versions) number

-- a live table's size is its image's
pub live_size-image : {S : Type 0} (m : Meaning S) (o : Option (Table S))
    → live_size (option_map (image m) o) ≡ live_size o
live_size-image m o = search (rules, size_of-image)
