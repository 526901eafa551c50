-- What live tables refer to, and which devices below them rest (dmsetup(8), suspend).
use Rattle.std.specs.Prelude.{◌≡◌, ◌==◌, ℕ, suc, zero, ◌++◌, ◌&&◌, Bool, true, false, not, List, []}
use Rattle.std.specs.Prelude.{◌∷◌, Option, Some, None, slice_get}
use Rattle.std.specs.Option.{option_flatten}
use Rattle.lab_model.specs.Walk.{Devices}
use Rattle.lab_model.specs.Fine.{live_under}
use Rattle.lab_script.specs.declared.slot.DeviceVersions.{DeviceVersions}
use Rattle.lab_script.specs.Image.{plain}
use Rattle.lab_script.specs.Slots.{is_suspended}
use Rattle.lab_standing.specs.Linked.{grown}
use Rattle.lab_standing.specs.Seen.{rests}
use Rattle.lab_rule_checks.specs.Search.{is_set}

-- the numbers of the mapped devices that a device's live table refers to
abbrev pub live_row : {S : Type 0} → Devices S → ℕ → List ℕ
live_row devices number = grown (live_under devices number) []

-- those of the first so many devices, by device number
abbrev pub live_rows : {S : Type 0} → Devices S → ℕ → List (List ℕ)
live_rows devices zero = []
live_rows devices (suc count) = live_rows devices count ++ live_row devices count ∷ []

-- whether a device stands and doesn't run
abbrev pub slot_rests : Option DeviceVersions → Bool
slot_rests None = false
slot_rests (Some slot) = rests (plain slot)

-- whether a device stands and is suspended
abbrev pub slot_suspended : Option DeviceVersions → Bool
slot_suspended None = false
slot_suspended (Some slot) = is_suspended slot.mode

-- whether a device is another than this one, is suspended and is marked
abbrev pub rests_at : List (Option DeviceVersions) → List Bool → ℕ → ℕ → Bool
rests_at slots marks device other = not (other == device)
    && (slot_suspended (option_flatten (slice_get slots other)) && is_set marks other)

-- another device than this one is marked and is suspended
abbrev pub SomeRestsAmong : List (Option DeviceVersions) → List Bool → ℕ → Type 0
SomeRestsAmong slots marks device = (other : ℕ) × (rests_at slots marks device other ≡ true)
