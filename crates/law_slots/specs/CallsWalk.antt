-- What each call does to the slots, seen without the states of the tables' targets, is the step of
-- the walk that goes with it (dmsetup(8)).
use Rattle.std.specs.Prelude.{◌≡◌, ℕ, List, [], ◌∷◌, ◌++◌, Option, Some, None, slice_get, option_map}
use Rattle.lab_target.specs.Meaning.{Meaning}
use Rattle.lab_model.specs.declared.micro.Mode.TheVariants.{Draining, Suspended}
use Rattle.lab_model.specs.declared.micro.Order.{Order}
use Rattle.lab_model.specs.declared.micro.Order.TheVariants.{Create, Load, Clear, Begin, Drained}
use Rattle.lab_model.specs.declared.micro.Order.TheVariants.{Swap, Remove}
use Rattle.lab_model.specs.ControlEffect.{created, named_version, swapped, with_inactive, with_mode}
use Rattle.lab_model.specs.Lists.{change}
use Rattle.lab_model.specs.MapEffect.{with_live}
use Rattle.lab_model.specs.Scenario.{Scenario}
use Rattle.lab_model.specs.State.{Slot}
use Rattle.lab_model.specs.Tables.{Table, image}
use Rattle.lab_model.specs.Walk.{Devices, devices_image, version_image, walk_order}
use Rattle.lab_model.specs.Slots.{live_at}

-- the slots of all devices
abbrev pub Slots : Type 0 → Type 0
Slots S = List (Option (Slot (Table S)))

-- one call goes with one step of the walk
abbrev pub Walks : {S : Type 0} → Meaning S → Scenario S → Slots S → Slots S → Order → Type 0
Walks m c old new order = devices_image m new ≡ walk_order m c (devices_image m old) order

-- each call goes with its step, whatever the scenario and the slots
pub record IsWalk {S : Type 0} (m : Meaning S) : Type 0 where
  -- a table that is a fresh version of the device has that version's image
  pub create : (c : Scenario S) (slots : Slots S) (device : ℕ) (version : Option ℕ)
      (live : Option (Table S))
      → option_map (image m) live ≡ option_map (image m) (named_version c device version)
      → Walks m c slots (slots ++ Some (created live) ∷ []) (Create device version)
  pub load : (c : Scenario S) (slots : Slots S) (device version : ℕ) (table : Table S)
      → Some (image m table) ≡ version_image m c device version
      → Walks m c slots (change slots device (option_map (with_inactive (Some table))))
      (Load device version)
  pub clear : (c : Scenario S) (slots : Slots S) (device : ℕ)
      → Walks m c slots (change slots device (option_map (with_inactive None))) (Clear device)
  pub begin_suspend : (c : Scenario S) (slots : Slots S) (device : ℕ)
      → Walks m c slots (change slots device (option_map (with_mode Draining))) (Begin device)
  pub end_suspend : (c : Scenario S) (slots : Slots S) (device : ℕ)
      → Walks m c slots (change slots device (option_map (with_mode Suspended))) (Drained device)
  pub swap_and_run : (c : Scenario S) (slots : Slots S) (device : ℕ)
      → Walks m c slots (change slots device (option_map swapped)) (Swap device)
  pub remove : (c : Scenario S) (slots : Slots S) (device : ℕ)
      → Walks m c slots (change slots device (λ _. None)) (Remove device)
  -- a live table of the same image in place of the old one is no step
  pub live_mut : (slots : Slots S) (device : ℕ) (before after : Table S)
      → live_at slots device ≡ Some before → image m after ≡ image m before
      → devices_image m (change slots device (option_map (with_live after))) ≡ devices_image m slots
  -- no step fills the number of a device that is removed
  pub removed : (c : Scenario S) (devices : Devices S) (device : ℕ) (order : Order)
      → slice_get devices device ≡ Some None
      → slice_get (walk_order m c devices order) device ≡ Some None
