-- What a device ends as, where a `&mut` into it is handed out (this project's own).
use Rattle.std.specs.Prelude.{Option, Some, option_map}
use Rattle.std.specs.Borrow.{Fml, Lends, LendsIf, MutBor, RattleType}
use Rattle.std.specs.contracts.option.Option.{the_row as option_row}
use Rattle.lab_model.specs.MapEffect.{with_live}
use Rattle.lab_model.specs.State.{Slot}
use Rattle.lab_device.specs.contracts.slot.Slot.{the_row}

-- the device's live table is the last one behind the reference; without one the device stays
abbrev pub LendsTable : (L : RattleType) → MutBor (Slot L.Denot) → Option (MutBor L.Denot) → Fml
LendsTable L slot table =
    LendsIf (the_row L) L slot table (λ last. with_live last slot.now) slot.now

-- the entry's device is the last one behind the reference
abbrev pub LendsThere : (L : RattleType) → MutBor (Option (Slot L.Denot)) → MutBor (Slot L.Denot)
    → Fml
LendsThere L entry slot = Lends (option_row (the_row L)) (the_row L) entry slot (λ last. Some last)

-- the live table of the entry's device is the last one behind the reference; without one the entry
-- stays
abbrev pub LendsLiveThere : (L : RattleType) → MutBor (Option (Slot L.Denot))
    → Option (MutBor L.Denot) → Fml
LendsLiveThere L entry table = LendsIf (option_row (the_row L)) L entry table
    (λ last. option_map (with_live last) entry.now) entry.now
