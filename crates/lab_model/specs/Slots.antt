-- The mapped devices of a run by number: which stand, with which live table, in which mode (dmsetup(8)).
use Rattle.std.specs.Prelude.{◌≡◌, ℕ, List, Option, Some, IsSome, slice_get, option_map, option_and_then}
use Rattle.lab_model.specs.declared.micro.Mode.{Mode}
use Rattle.lab_model.specs.State.{Slot}
use Rattle.std.specs.Option.{option_flatten}

-- the device of this number, if it stands
abbrev pub slot_at : {L : Type 0} → List (Option (Slot L)) → ℕ → Option (Slot L)
slot_at slots device = option_flatten (slice_get slots device)

-- the live table of the device of this number, if there is one
abbrev pub live_at : {L : Type 0} → List (Option (Slot L)) → ℕ → Option L
live_at slots device = option_and_then (λ slot. slot.live) (slot_at slots device)

-- the mode of the device of this number, if it stands
abbrev pub mode_at : {L : Type 0} → List (Option (Slot L)) → ℕ → Option Mode
mode_at slots device = option_map (λ slot. slot.mode) (slot_at slots device)

-- the device of this number is there
abbrev pub HasDevice : {L : Type 0} → List (Option (Slot L)) → ℕ → Type 0
HasDevice slots device = IsSome (slot_at slots device)

-- the device of this number is there, in this mode
abbrev pub HasMode : {L : Type 0} → List (Option (Slot L)) → ℕ → Mode → Type 0
HasMode slots device mode = mode_at slots device ≡ Some mode
