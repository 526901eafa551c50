-- Walks that see devices alike, whatever stands for a table in each: related tables are in the same
-- slots, and names, counts and modes are the same (this project's own).
use Rattle.std.specs.Prelude.{◌≡◌, ℕ, List, Option, Some, None, length}
use Rattle.lab_model.specs.Slots.{slot_at}
use Rattle.lab_model.specs.State.{Slot}
use Rattle.lab_script.specs.Walk.{Walk}

-- there are two, which are related, or neither is there
abbrev pub Both : {X Y : Type 0} → (X → Y → Type 0) → Option X → Option Y → Type 0
Both R None None = Unit {0}
Both R (Some x) (Some y) = R x y
Both R _ _ = ⊥

module _ {L K : Type 0} (R : L → K → Type 0) where
  -- two devices have related tables in the same slots, and one mode
  pub record SlotsAlike (a : Slot L) (b : Slot K) : Type 0 where
    pub live : Both R a.live b.live
    pub inactive : Both R a.inactive b.inactive
    pub mode : a.mode ≡ b.mode

  -- two walks have the same names and counts, and such devices at each number
  pub record WalksAlike (w : Walk L) (v : Walk K) : Type 0 where
    pub device_of : (name : List ℕ) → w.device_of name ≡ v.device_of name
    pub devices : (number : ℕ)
        → Both SlotsAlike (slot_at w.devices number) (slot_at v.devices number)
    pub made : length w.devices ≡ length v.devices
    pub loads : w.loads ≡ v.loads

-- any two tables are related
abbrev pub Any : {L K : Type 0} → L → K → Type 0
Any x y = Unit {0}
